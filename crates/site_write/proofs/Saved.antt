-- Writing a site, place after place.
use Rattle.std.proofs.Common.{◌≡◌, ℕ, ◌+◌, ◌≤◌, List, ◌++◌, length, take, drop, Ok, sym, refl, ap, ◌∙◌, ap₂, append-nil, Bor, map, zero-add, arith}
use Rattle.std.proofs.lemmas.List.{length-append, take_at}
use Rattle.std.specs.List.{flat_map}
use Rattle.std.proofs.lemmas.List.Folds.{flat_map-map}
use Rattle.std.proofs.lemmas.Bool.{le-leb, ne_eqb}
use Rattle.site_read.specs.Format.{Places, placed, loop_count, file_of, LawfulPlace, LawfulSite}
use Rattle.site_read.specs.Sites.{site}
use Rattle.site_read.proofs.Files.{files_are_read, only_files_are_read}
use Rattle.loops.specs.declared.place.Place.{Place}
use Rattle.loops.specs.declared.place.Place.TheVariants.{Vacant, Region, Contract}
use Rattle.loops.specs.Places.{place_table}
use Rattle.loops.specs.ContractLaws.{terms_lawful}
use Rattle.site.specs.declared.site.Site.{Site}
use Rattle.site.specs.Loaded.{site_places, places_of}
use Rattle.site_write.specs.Paste.{pasted}
use Rattle.site_write.specs.Writing.{write_answer, write_output, OnlyFile}
use Rattle.site_write.proofs.Pastes.{pasted_more}

-- what stands from the start of the buffer on, one part more
pub part_more : (out o o' acc part part' : List ℕ) (end : ℕ) → o ≡ pasted out 0 acc → end ≡ length acc → length acc ≤ length out → part' ≡ part → o' ≡ pasted o end part' → o' ≡ pasted out 0 (acc ++ part)
part_more out o o' acc part part' end p e l s q =
    q ∙ ap (pasted o end) s ∙ ap₂ (λ (b : List ℕ) (n : ℕ). pasted b n part) p (e ∙ sym (zero-add (length acc))) ∙ pasted_more out 0 acc part (rw (zero-add (length acc)) l)

-- the tables of a site are lawful
lawful_place : (p : Place) → LawfulPlace (place_table p)
lawful_place Vacant = tt
lawful_place (Region x) = x.lawful
lawful_place (Contract x) = terms_lawful x

lawful_site : (s : Site) → (loop_count (site_places s) ≡ 0 → ⊥) → LawfulSite (site_places s)
lawful_site s some =
    record {
      first = lawful_place s.joined.left.left;
      second = lawful_place s.joined.left.right;
      third = lawful_place s.joined.right.left;
      fourth = lawful_place s.joined.right.right;
      order = s.order;
      some = some;
    }

module _ (p : Places) where
  pub site_length : length (file_of p) ≡ 6 + length (placed p.first) + length (placed p.second) + length (placed p.third) + length (placed p.fourth)
  site_length = simp length-append (omega arith)

  -- the records, in file order
  abbrev pub records : List ℕ
  records = placed p.first ++ (placed p.second ++ (placed p.third ++ placed p.fourth))

  module _ (out : List ℕ) (some : loop_count p ≡ 0 → ⊥) where
    pub written_answer : (end : ℕ) → end ≡ length (file_of p) → length (file_of p) ≤ length out → Ok end ≡ write_answer p out
    written_answer end e h = rw (ne_eqb (loop_count p) 0 some, e, le-leb (length (file_of p)) (length out) h) refl

    pub written_output : (o : List ℕ) → length (file_of p) ≤ length out → o ≡ pasted out 0 (file_of p) → o ≡ write_output p out
    written_output o h e = rw (ne_eqb (loop_count p) 0 some, le-leb (length (file_of p)) (length out) h, e, zero-add (length (file_of p))) refl

pub records_joined : (s : Site) (ys : List (Bor Place)) → map (λ (y : Bor Place). y.now) ys ≡ places_of s → flat_map (λ (y : Bor Place). placed (place_table y.now)) ys ≡ records (site_places s)
records_joined s ys e =
    sym (flat_map-map (λ (p : Place). placed (place_table p)) (λ (y : Bor Place). y.now) ys)
    ∙ ap (flat_map (λ (p : Place). placed (place_table p))) e
    ∙ simp append-nil

-- what was written is the one file of the site
pub only_file : (s : Site) (out o : List ℕ) (end : ℕ) → (loop_count (site_places s) ≡ 0 → ⊥) → end ≡ length (file_of (site_places s)) → o ≡ pasted out 0 (file_of (site_places s)) → OnlyFile (site_places s) (take end o)
only_file s out o end some e w =
    let f : List ℕ = file_of (site_places s) in
    let same : take end o ≡ f = ap₂ (λ (n : ℕ) (l : List ℕ). take n l) e w ∙ take_at f (drop (0 + length f) out) (length f) refl in
    record {
      loads = ap site same ∙ files_are_read (site_places s) (lawful_site s some);
      only = λ file bytes q. (only_files_are_read file bytes (site_places s) q).1 ∙ sym same;
    }
