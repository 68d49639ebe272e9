-- What a word and a line are read as: the number and the call that are printed so.
use Rattle.std.specs.Prelude.{◌≡◌, ◌↔◌, ℕ, ◌<◌, ◌^◌, ⊤, List, Option, Some, codes, decimal}
use Rattle.keeper.specs.declared.service.Call.{Call}
use Rattle.keeper.specs.declared.service.Call.TheVariants.{Permits, Pick, Grant, Report, PermitsIn, Spoiler}
use Rattle.keeper.specs.Words.{call_words}

-- what is found is the one thing of which P holds, and nothing is found where it holds of none
abbrev pub Finds : {A : Type 0} → (A → Type 0) → Option A → Type 0
Finds P found = (x : _) → (found ≡ Some x) ↔ P x

-- the word is what a number below 2 ^ 64 is printed as
pub record Numeral (word : List ℕ) (n : ℕ) : Type 0 where
  pub small : n < 2 ^ 64
  pub printed : word ≡ decimal n

-- each number that a call names is below 2 ^ 64
abbrev pub Small : Call → Type 0
Small (Permits m) = m < 2 ^ 64
Small Pick = ⊤
Small (Grant m) = m < 2 ^ 64
Small (Report t) = t < 2 ^ 64
Small (PermitsIn s m) = (s < 2 ^ 64) × (m < 2 ^ 64)
Small (Spoiler s m) = (s < 2 ^ 64) × (m < 2 ^ 64)

-- the line is what a call of such numbers is printed as
pub record CallLine (line : List ℕ) (c : Call) : Type 0 where
  pub small : Small c
  pub printed : line ≡ call_words c

-- by its name, a call that names one number
abbrev pub Numbered : List ℕ → List ℕ → Call → Type 0
Numbered name word (Permits m) = (name ≡ codes "permits") × Numeral word m
Numbered name word (Grant m) = (name ≡ codes "grant") × Numeral word m
Numbered name word (Report t) = (name ≡ codes "report") × Numeral word t
Numbered name word Pick = ⊥
Numbered name word (PermitsIn s m) = ⊥
Numbered name word (Spoiler s m) = ⊥

-- by its name, a call that names a move in a state
abbrev pub Placed : List ℕ → List ℕ → List ℕ → Call → Type 0
Placed name mv state (PermitsIn s m) = (name ≡ codes "permits") × Numeral mv m × Numeral state s
Placed name mv state (Spoiler s m) = (name ≡ codes "spoiler") × Numeral mv m × Numeral state s
Placed name mv state (Permits m) = ⊥
Placed name mv state Pick = ⊥
Placed name mv state (Grant m) = ⊥
Placed name mv state (Report t) = ⊥
