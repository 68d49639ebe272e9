-- What the pick and the spoiler find, by any marking.
use Rattle.std.proofs.Common.{◌≡◌, ℕ, zero, suc, ◌+◌, ◌<◌, ◌≤◌, Bool, true, false, not, ◌&&◌, ◌||◌, ltb, ◌⊎◌, List, [], ◌∷◌, Some, None, Option, sym, refl, ap, ◌∙◌, subst, ap₂, inl, inr, add-one, arith, MatchOption, IfSome}
use Rattle.std.proofs.lemmas.Bool.{cases_Bool, cases_lt, cases_eq, both_ways, and_parts, and_from, or_cases, or_left, or_right, not-true, not_from_false, false_from_ne_true, ltb-true, lt-ltb, ltb-false, leb-true, le-leb, eqb-true, eq-eqb}
use Rattle.traffic.specs.Searches.{every_below, least}
use Rattle.traffic.specs.Meaning.{Meaning, Lawful}
use Rattle.traffic.specs.Answered.{within_limits}
use Rattle.traffic.specs.NextStates.{next_states_from}
use Rattle.traffic.proofs.Asked.{next_none}
use Rattle.traffic.proofs.Following.{nothing_left, first_left}
use Rattle.traffic.specs.Found.{Least, every_decides, least_some, least_none, least_is, least_is_none}
use Rattle.game.specs.Game.{keeps_in, permitted_by}
use Rattle.game.specs.Standing.{on, standing}
use Rattle.game.specs.Choice.{pick_by, threat, comes_before, worst, spoiler_by, ahead}

-- a move that keeps to the states of mark 0 is permitted
pub found_permitted : (M : Meaning) (map : List ℕ) (s m : ℕ) (found : Bool) → found ≡ keeps_in M (standing map None) s m → found ≡ permitted_by M (on map) s m
unfolding permitted_by standing
found_permitted M map s m found e = e

module _ (M : Meaning) (marks : ℕ → ℕ) (s : ℕ) where
  pub pick_found : (m : ℕ) → pick_by M marks s ≡ Some m → (permitted_by M marks s m ≡ true) × ((k : ℕ) → k < m → permitted_by M marks s k ≡ false)
  unfolding pick_by
  pick_found m e =
      let l = least_some (permitted_by M marks s) (suc M.loops) 0 m e in (l.passes, λ k b. l.before k (omega arith) b)

  pub pick_absent : pick_by M marks s ≡ None → (m : ℕ) → m ≤ M.loops → permitted_by M marks s m ≡ false
  unfolding pick_by
  pick_absent e m h = least_none (permitted_by M marks s) (suc M.loops) 0 e m (omega arith) (omega arith)

module _ (marks : ℕ → ℕ) where
  pub comes_low : (t u : ℕ) → comes_before marks t u ≡ true → (marks t < marks u) ⊎ ((marks t ≡ marks u) × (t ≤ u))
  unfolding comes_before
  comes_low t u e =
      elim (or_cases _ _ e) [
        | inl l ↦ inl (ltb-true _ _ l)
        | inr l ↦ let p = and_parts _ _ l in inr (eqb-true _ _ p.0, leb-true _ _ p.1)
      ]

  low_comes : (t u : ℕ) → (marks t < marks u) ⊎ ((marks t ≡ marks u) × (t ≤ u)) → comes_before marks t u ≡ true
  unfolding comes_before
  low_comes t u e =
      elim e [
        | inl l ↦ or_left _ _ (lt-ltb _ _ l)
        | inr l ↦ or_right _ _ (and_from _ _ (eq-eqb _ _ l.0) (le-leb _ _ l.1))
      ]

module _ (M : Meaning) (marks : ℕ → ℕ) (s m : ℕ) where
  pub threat_is : (t : ℕ) → M.leads s m t ≡ true → 0 < marks t → threat M marks s m t ≡ true
  unfolding threat
  threat_is t e h = and_from _ _ e (lt-ltb _ _ h)

  pub threat_parts : (t : ℕ) → threat M marks s m t ≡ true → (M.leads s m t ≡ true) × (0 < marks t)
  unfolding threat
  threat_parts t e = let p = and_parts _ _ e in (p.0, ltb-true _ _ p.1)

  -- what is no next state is no threat, nor is a state of mark 0
  pub not_next : (t : ℕ) → M.leads s m t ≡ false → threat M marks s m t ≡ false
  not_next t e = false_from_ne_true _ (λ h. both_ways _ e (threat_parts t h).0)

  pub unmarked : (t : ℕ) → marks t ≤ 0 → threat M marks s m t ≡ false
  unmarked t z = false_from_ne_true _ (λ h. omega (arith, (threat_parts t h).1))

  -- t is a threat, and comes before the others below `from`
  pub record First (from t : ℕ) : Type 0 where
    pub below : t < from
    pub threatens : threat M marks s m t ≡ true
    pub first : (u : ℕ) → u < from → threat M marks s m u ≡ true → comes_before marks t u ≡ true

  -- of the threats below `from`, the first is found, if there is any
  abbrev pub FoundFirst : ℕ → Option ℕ → Type 0
  FoundFirst from found = MatchOption found ((u : ℕ) → u < from → threat M marks s m u ≡ false) (First from)

  first_none : FoundFirst 0 None
  first_none u h = absurd (omega arith)

  -- t is looked at, with no threat between `from` and t
  module _ (from t : ℕ) (low : from ≤ t) (between : (u : ℕ) → from ≤ u → u < t → threat M marks s m u ≡ false) where
    before : (u : ℕ) → u < t + 1 → threat M marks s m u ≡ true → (u < from) ⊎ (u ≡ t)
    before u h e =
        elim (cases_lt u from) [
          | inl b ↦ inl b
          | inr a ↦ elim (cases_eq u t) [ inl q ↦ inr q | inr n ↦ absurd (both_ways _ (between u a (omega arith)) e) ]
        ]

    -- what was first stays so if t does not come before it
    stays : (w : ℕ) → First from w → (threat M marks s m t ≡ true → comes_before marks w t ≡ true) → First (t + 1) w
    stays w f here = record {
      below = omega (arith, f.below);
      threatens = f.threatens;
      first = λ u h e.
          elim (before u h e) [ inl b ↦ f.first u b e | inr q ↦ ap (comes_before marks w) q ∙ here (ap (threat M marks s m) (sym q) ∙ e) ];
    }

    pub first_passed : (found : Option ℕ) → threat M marks s m t ≡ false → FoundFirst from found → FoundFirst (t + 1) found
    first_passed None n f =
        λ u h.
        false_from_ne_true _
        (λ e. elim (before u h e) [ inl b ↦ both_ways _ (f u b) e | inr q ↦ both_ways _ n (ap (threat M marks s m) (sym q) ∙ e) ])
    first_passed (Some w) n f = stays w f (λ e. absurd (both_ways _ n e))

    pub first_kept : (found : Option ℕ) → ahead marks t found ≡ false → FoundFirst from found → FoundFirst (t + 1) found
    first_kept None n f = absurd (both_ways _ n refl)
    first_kept (Some w) n f =
        let l = ltb-false _ _ n in
        stays w f
        (λ _. low_comes marks w t (elim (cases_lt (marks w) (marks t)) [ inl h ↦ inl h | inr h ↦ inr (omega arith, omega (arith, f.below)) ]))

    pub first_replaced : (found : Option ℕ) → threat M marks s m t ≡ true → ahead marks t found ≡ true → FoundFirst from found → First (t + 1) t
    first_replaced found y a f =
        record {
          below = omega arith;
          threatens = y;
          first = λ u h e.
              low_comes marks t u
              (elim (before u h e) [ inl b ↦ inl (lower found a f u b e) | inr q ↦ inr (ap marks (sym q), omega arith) ]);
        }
      where
        lower : (found : Option ℕ) → ahead marks t found ≡ true → FoundFirst from found → (u : ℕ) → u < from → threat M marks s m u ≡ true → marks t < marks u
        lower None a f u b e = absurd (both_ways _ (f u b) e)
        lower (Some w) a f u b e = let l = ltb-true _ _ a in let c = comes_low marks w u (f.first u b e) in omega arith

  first_more : (t : ℕ) (found : Option ℕ) → FoundFirst t found → (next : Option ℕ) × FoundFirst (t + 1) next
  first_more t found f =
      let none : (u : ℕ) → t ≤ u → u < t → threat M marks s m u ≡ false = λ u a b. absurd (omega arith) in
      elim (cases_Bool (threat M marks s m t)) [
        | inl y ↦
            elim (cases_Bool (ahead marks t found)) [
              | inl a ↦ (Some t, first_replaced t t (omega arith) none found y a f)
              | inr n ↦ (found, first_kept t t (omega arith) none found n f)
            ]
        | inr n ↦ (found, first_passed t t (omega arith) none found n f)
      ]

  some_first : (n : ℕ) → (found : Option ℕ) × FoundFirst n found
  some_first zero = (None, first_none)
  some_first (suc n) = let w = some_first n in rw (← add-one) (first_more n w.0 w.1)

  worst_is : (t : ℕ) → threat M marks s m t ≡ true → ((u : ℕ) → u < M.states → threat M marks s m u ≡ true → comes_before marks t u ≡ true) → worst M marks s m t ≡ true
  unfolding worst
  worst_is t y first =
      and_from _ _ y
      ((every_decides (λ u. not (threat M marks s m u) || comes_before marks t u) M.states).1
      (λ u h. elim (cases_Bool (threat M marks s m u)) [ inl e ↦ or_right _ _ (first u h e) | inr e ↦ or_left _ _ (not_from_false _ e) ]))

  worst_parts : (t : ℕ) → worst M marks s m t ≡ true → (threat M marks s m t ≡ true) × ((u : ℕ) → u < M.states → threat M marks s m u ≡ true → comes_before marks t u ≡ true)
  unfolding worst
  worst_parts t e =
      let p = and_parts _ _ e in (
        p.0,
        λ u h y.
            elim (or_cases _ _ ((every_decides (λ u. not (threat M marks s m u) || comes_before marks t u) M.states).0 p.1 u h)) [
              | inl n ↦ absurd (both_ways _ (not-true _ n) y)
              | inr c ↦ c
            ],
      )

  -- of the next states those in `left` are still to come, and of the threats among the others `found` is the first
  pub record Passing (left : List ℕ) (found : Option ℕ) : Type 0 where
    pub from : ℕ
    pub rest : left ≡ next_states_from M s m from
    pub first : FoundFirst from found

  -- what is found is a state of the traffic
  pub passing_inside : Lawful M → (left : List ℕ) (found : Option ℕ) (n : ℕ) → M.states ≤ n → Passing left found → IfSome found (λ w. w < n)
  passing_inside law left None n h k = tt
  passing_inside law left (Some w) n h k =
      let high = law.leads_within s m w (threat_parts w k.first.threatens).0 in omega (arith, high.1)

  -- t comes next
  module _ (t : ℕ) (left now : List ℕ) (found : Option ℕ) (k : Passing now found) (e : now ≡ t ∷ left) where
    next : (within_limits M ≡ true) × Least (M.leads s m) k.from M.states t × (left ≡ next_states_from M s m (t + 1))
    next = first_left M s m k.from t left (sym e ∙ k.rest)

    between : (u : ℕ) → k.from ≤ u → u < t → threat M marks s m u ≡ false
    between u a b = not_next u (next.1.before u a b)

    after : (o : Option ℕ) → FoundFirst (t + 1) o → Passing left o
    after o f = record { from = t + 1; rest = next.2; first = f }

    pub passing_at : t < M.states
    passing_at = next.1.high

    pub passing_passed : marks t ≤ 0 → Passing left found
    passing_passed z = after found (first_passed k.from t next.1.low between found (unmarked t z) k.first)

    pub passing_kept : ahead marks t found ≡ false → Passing left found
    passing_kept n = after found (first_kept k.from t next.1.low between found n k.first)

    pub passing_replaced : 0 < marks t → ahead marks t found ≡ true → Passing left (Some t)
    passing_replaced y a =
        after (Some t) (first_replaced k.from t next.1.low between found (threat_is t next.1.passes y) a k.first)

  module _ (law : Lawful M) where
    -- what is found is the spoiler, if there is no threat from `from` on
    module _ (from : ℕ) (rest : (u : ℕ) → from ≤ u → u < M.states → threat M marks s m u ≡ false) where
      below_from : (u : ℕ) → u < M.states → threat M marks s m u ≡ true → u < from
      below_from u h e = elim (cases_lt u from) [ inl b ↦ b | inr a ↦ absurd (both_ways _ (rest u a h) e) ]

      pub first_is_spoiler : (found : Option ℕ) → FoundFirst from found → found ≡ spoiler_by M marks s m
      unfolding spoiler_by
      first_is_spoiler None f =
          sym
          (least_is_none (worst M marks s m) M.states 0
          (λ u a b. false_from_ne_true _ (λ e. let y = (worst_parts u e).0 in both_ways _ (f u (below_from u (omega arith) y)) y)))
      first_is_spoiler (Some t) f =
          let high : t < M.states = (law.leads_within s m t (threat_parts t f.threatens).0).2 in
          sym
          (least_is (worst M marks s m) M.states 0 t
          (record {
            passes = worst_is t f.threatens (λ u h y. f.first u (below_from u h y) y);
            low = omega arith;
            high = omega arith;
            before = λ u a b.
                false_from_ne_true _
                (λ e.
                let p = worst_parts u e in
                let h : u < M.states = omega arith in
                omega
                (arith, comes_low marks u t (p.1 t high f.threatens), comes_low marks t u (f.first u (below_from u h p.0) p.0)));
          }))

    -- all next states are passed
    pub passing_over : (left : List ℕ) (found : Option ℕ) → within_limits M ≡ true → Passing left found → left ≡ [] → found ≡ spoiler_by M marks s m
    passing_over left found w k e =
        let none = next_none M s m k.from w (sym (nothing_left M s m k.from (sym e ∙ k.rest))) in
        first_is_spoiler k.from (λ u a b. not_next u (none u a b)) found k.first

    -- the spoiler is the first of all threats
    pub spoiler_first : FoundFirst M.states (spoiler_by M marks s m)
    spoiler_first =
        let w = some_first M.states in
        subst (FoundFirst M.states) (first_is_spoiler M.states (λ u a b. absurd (omega arith)) w.0 w.1) w.1

-- two markings that agree on the states choose the same
module _ (M : Meaning) (f g : ℕ → ℕ) (same : (t : ℕ) → t < M.states → f t ≡ g t) (s m : ℕ) where
  least_same : (p q : ℕ → Bool) (k from : ℕ) → ((u : ℕ) → u < from + k → p u ≡ q u) → least p from k ≡ least q from k
  unfolding least
  least_same p q zero from e = refl
  least_same p q (suc k) from e =
      ap₂ (λ b (o : Option ℕ). elim b [ true ↦ Some from | false ↦ o ]) (e from (omega arith)) (least_same p q k (suc from) (λ u h. e u (omega arith)))

  every_same : (p q : ℕ → Bool) (n : ℕ) → ((u : ℕ) → u < n → p u ≡ q u) → every_below p n ≡ every_below q n
  unfolding every_below
  every_same p q zero e = refl
  every_same p q (suc n) e = ap₂ ◌&&◌ (e n (omega arith)) (every_same p q n (λ u h. e u (omega arith)))

  threat_same : (t : ℕ) → t < M.states → threat M f s m t ≡ threat M g s m t
  unfolding threat
  threat_same t h = ap (λ k. M.leads s m t && ltb 0 k) (same t h)

  comes_same : (t u : ℕ) → t < M.states → u < M.states → comes_before f t u ≡ comes_before g t u
  unfolding comes_before
  comes_same t u h i = rw (same t h, same u i) refl

  worst_same : (t : ℕ) → t < M.states → worst M f s m t ≡ worst M g s m t
  unfolding worst
  worst_same t h =
      ap₂ ◌&&◌ (threat_same t h)
      (every_same _ _ M.states (λ u i. ap₂ (λ a b. not a || b) (threat_same u i) (comes_same t u h i)))

  pub spoiler_same : spoiler_by M f s m ≡ spoiler_by M g s m
  unfolding spoiler_by
  spoiler_same = least_same (worst M f s m) (worst M g s m) M.states 0 (λ u h. worst_same u (omega arith))
