-- What a loop's table says, and which tables are lawful.
use Rattle.std.specs.Prelude.{◌≡◌, ℕ, ◌+◌, ◌-◌, ◌^◌, ◌≤◌, Bool, true, ◌&&◌, List, [], ◌∷◌, length, ◌==◌, nat_le, nat_lt}

-- a region: a send at check k, from `earliest` to `deadline`, leads to a region of the set at k - earliest
pub record Row : Type 0 where
  pub earliest : ℕ
  pub deadline : ℕ
  pub targets : List ℕ

-- a contract: how many checks pass between messages, and how many a message holds the channel
pub record Gaps : Type 0 where
  pub least_gap : ℕ
  pub greatest_gap : ℕ
  pub least_hold : ℕ
  pub greatest_hold : ℕ

pub data Table : Type 0 where
  by_regions : List Row → Table
  by_contract : Gaps → Table

abbrev pub every : {X : Type 0} → (X → Bool) → List X → Bool
every p [] = true
every p (x ∷ xs) = p x && every p xs

-- a nonempty set of regions below `count`; the bit of value 2 ^ p stands for region p
abbrev pub lawful_set : ℕ → ℕ → Bool
lawful_set count s = nat_le 1 s && nat_lt s (2 ^ count)

-- 1 ≤ earliest ≤ deadline ≤ 64, and a set for each check from the one to the other
abbrev pub lawful_row : ℕ → Row → Bool
lawful_row count r =
    nat_le 1 r.earliest && nat_le r.earliest r.deadline && nat_le r.deadline 64
    && length r.targets == r.deadline + 1 - r.earliest && every (lawful_set count) r.targets

-- 1 to 16 regions, whose sets name only regions that there are
abbrev pub lawful_rows : List Row → Bool
lawful_rows rs = nat_le 1 (length rs) && nat_le (length rs) 16 && every (lawful_row (length rs)) rs

pub record LawfulGaps (g : Gaps) : Type 0 where
  pub gap_low : 1 ≤ g.least_gap
  pub gap_order : g.least_gap ≤ g.greatest_gap
  pub gap_high : g.greatest_gap ≤ 64
  pub hold_low : 1 ≤ g.least_hold
  pub hold_order : g.least_hold ≤ g.greatest_hold
  pub hold_high : g.greatest_hold ≤ 16

abbrev pub Lawful : Table → Type 0
Lawful (by_regions rs) = lawful_rows rs ≡ true
Lawful (by_contract g) = LawfulGaps g
