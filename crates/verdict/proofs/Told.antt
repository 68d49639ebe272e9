-- A verdict says what the file is, and what its game is.
use Rattle.std.proofs.Common.{◌≡◌, ℕ, zero, suc, ◌<◌, ◌≤◌, ◌⊎◌, List, length, IfOk, Some, None, Ok, Err, Option, Result, sym, refl, ap, ◌∙◌, subst, inl, inr, arith}
use Rattle.std.proofs.lemmas.Bool.{leb-true, le-leb, cases_lt}
use Rattle.std.specs.declared.alloc.AllocError.{AllocError}
use Rattle.traffic.specs.Meaning.{Lawful}
use Rattle.site_read.specs.declared.fault.Fault.{Fault}
use Rattle.site_read.specs.declared.fault.Report.{Report}
use Rattle.site_read.specs.Faults.{report}
use Rattle.site_read.specs.Beginnings.{FaultIn}
use Rattle.site_read.specs.Format.{Bytes, Places, LawfulSite, file_of}
use Rattle.site_read.specs.Sites.{site}
use Rattle.site_read.proofs.Sound.{never, same_ok}
use Rattle.site_read.proofs.Files.{files_are_read, only_files_are_read}
use Rattle.site_read.proofs.SiteFaults.{faults_are_told}
use Rattle.site.specs.SiteTraffic.{site_meaning}
use Rattle.site.specs.SiteLaws.{places_lawful, within_is}
use Rattle.game.specs.declared.map_fault.MapFault.{MapFault}
use Rattle.game.specs.declared.map_fault.MapFault.TheVariants.{OverLimits, ShortMap, NoSuchState}
use Rattle.game.specs.declared.solution.Tally.{Tally}
use Rattle.game.specs.declared.solution.Refusal.{Refusal}
use Rattle.game.specs.declared.solution.Refusal.TheVariants.{Map, NoSchedule}
use Rattle.game.specs.Game.{mark}
use Rattle.traffic.specs.Refusals.{unless}
use Rattle.game.specs.Maps.{turned_away}
use Rattle.game.specs.Answers.{tally, judged}
use Rattle.keeper.specs.declared.arming.Armed.{Armed}
use Rattle.keeper.specs.Arming.{armed}
use Rattle.game.proofs.Rounds.{unmarked_lasts}
use Rattle.game.proofs.Rules.{lasts_permitted, marks_tell}
use Rattle.game.proofs.Admitted.{not_turned_away, admitted}
use Rattle.verdict.specs.declared.Verdict.{Verdict}
use Rattle.verdict.specs.declared.Verdict.TheVariants.{Refused}
use Rattle.verdict.specs.Verdicts.{ruled, verdict_by, Judged}
use Rattle.verdict.specs.Tells.{GameOf, Tells, FaultIsRefused}

module _ (file : List ℕ) (bytes : Bytes file) (map : List ℕ) where
  -- what a refused file tells: the site that it is of, if any, has too many states
  refuses : (p : Places) → site file ≡ Ok p → (32768 < (site_meaning p).states) ⊎ (length map < (site_meaning p).states) →
      (p' : Places) → LawfulSite p' → file ≡ file_of p' → (32768 < (site_meaning p').states) ⊎ (length map < (site_meaning p').states)
  refuses p q big p' l f =
      let same : p ≡ p' = same_ok p p' (sym q ∙ ap site f ∙ files_are_read p' l) in
      subst (λ (x : Places). (32768 < (site_meaning x).states) ⊎ (length map < (site_meaning x).states)) same big

  -- what synthesis answers, unless it is turned away
  abbrev found_unless : Option MapFault → Places → Result Tally Refusal
  found_unless away p = unless (λ f. Err (Map f)) away (judged (mark (site_meaning p) 0) (tally (site_meaning p)))

  module _ (p : Places) (q : site file ≡ Ok p) where
    l : LawfulSite p
    l = (only_files_are_read file bytes p q).0

    law : Lawful (site_meaning p)
    law = places_lawful p l

    inside : 0 < (site_meaning p).states
    inside = law.inhabited

    game : (site_meaning p).states ≤ 32768 → GameOf file (site_meaning p).states (tally (site_meaning p)) p
    game few = record { lawful = l; written = (only_files_are_read file bytes p q).1; states = refl; few = few; won = refl; lasted = refl }

    by_mark : (site_meaning p).states ≤ 32768 → (m : ℕ) → mark (site_meaning p) 0 ≡ m → Tells file (length map) (ruled (site_meaning p).states (armed 0 (judged m (tally (site_meaning p)))))
    by_mark few zero e =
        let move = lasts_permitted (site_meaning p) 0 (unmarked_lasts (site_meaning p) 0 inside e) in
        (p, game few, (move.0, ((marks_tell (site_meaning p) law).permit 0 move.0 inside).0 move.1))
    by_mark few (suc k) e = (
      p,
      game few,
      ((marks_tell (site_meaning p) law).decide 0 inside).0 (λ z. omega arith),
      (marks_tell (site_meaning p) law).count 0 k inside e,
    )

    -- a site that synthesis turns away has too many states
    too_many : (f : MapFault) → turned_away (site_meaning p) (length map) 0 ≡ Some f → (32768 < (site_meaning p).states) ⊎ (length map < (site_meaning p).states)
    too_many f e =
        elim (cases_lt 32768 (site_meaning p).states) [
          | inl h ↦ inl h
          | inr few ↦
              elim (cases_lt (length map) (site_meaning p).states) [
                | inl h ↦ inr h
                | inr h ↦
                    let clear = not_turned_away (site_meaning p) (length map) 0 (record { limits = within_is p ∙ le-leb _ _ few; room = omega arith; inside = inside }) in
                    let no : ◌≡◌ {A = ℕ} 0 1 = cc in
                    absurd (omega arith)
              ]
        ]

    by_room : (o : Option MapFault) → turned_away (site_meaning p) (length map) 0 ≡ o → Tells file (length map) (ruled (site_meaning p).states (armed 0 (found_unless o p)))
    by_room None e =
        by_mark (leb-true _ _ (sym (within_is p) ∙ (admitted (site_meaning p) (length map) 0 e).limits)) (mark (site_meaning p) 0) refl
    by_room (Some f) e = refuses p q (too_many f e)

  told : Tells file (length map) (verdict_by (site file) map)
  told = go (site file) refl
    where
      go : (r : Result Places Fault) → site file ≡ r → Tells file (length map) (verdict_by r map)
      go (Ok p) q = by_room p q (turned_away (site_meaning p) (length map) 0) refl
      go (Err e) q = λ p l f. absurd (never e p (sym q ∙ ap site f ∙ files_are_read p l))

  -- a refusal of a site that was read has a number above those of faults
  above_faults : (n : ℕ) (found : Result Armed Refusal) (x : Report) → ruled n found ≡ Refused x → x.number ≤ 8 → ⊥
  above_faults n (Ok a) x e h = cc
  above_faults n (Err (NoSchedule k t)) x e h = cc
  above_faults n (Err (Map OverLimits)) x e h = let same : 9 ≡ x.number = cc in omega arith
  above_faults n (Err (Map ShortMap)) x e h = let same : 10 ≡ x.number = cc in omega arith
  above_faults n (Err (Map NoSuchState)) x e h = let same : 11 ≡ x.number = cc in omega arith

  pub fault_told : (r : Result Verdict AllocError) → Judged file map r → FaultIsRefused file r
  fault_told (Ok v) j = (
    λ fault w. ap Ok (j ∙ ap (λ s. verdict_by s map) ((faults_are_told file bytes fault).1 w)),
    λ told e h. go told (site file) refl (let same : v ≡ Refused told = cc in sym j ∙ same) h,
  )
    where
      go : (told : Report) (s : Result Places Fault) → site file ≡ s → verdict_by s map ≡ Refused told → told.number ≤ 8 → (fault : Fault) × FaultIn file fault × (report fault ≡ told)
      go told (Ok p) q e h = absurd (above_faults _ _ told e h)
      go told (Err fault) q e h = (fault, (faults_are_told file bytes fault).0 q, (let same : report fault ≡ told = cc in same))
  fault_told (Err y) j = (λ fault w. never fault j.0 (sym ((faults_are_told file bytes fault).1 w) ∙ j.1), λ told e h. cc)

  pub made_told : (r : Result Verdict AllocError) → Judged file map r → IfOk r (Tells file (length map))
  made_told (Ok v) j = subst (Tells file (length map)) (sym j) told
  made_told (Err y) j = tt
