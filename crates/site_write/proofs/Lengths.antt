-- How long the parts of a file are, in sums.
use Rattle.std.proofs.Common.{◌≡◌, ℕ, ◌+◌, ◌<◌, ◌≤◌, List, [], ◌∷◌, map, length, get_or, vec_items, Iter, Bor, sym, ap, ◌∙◌, arith}
use denote.Param.Members.{Mut}
use Rattle.std.specs.Fn.{Called}
use Rattle.std.specs.Iterator.Adapters.{map_source, map_callee}
use Rattle.std.specs.Slice.Iter.{iter_rest}
use Rattle.std.specs.List.{flat_map, sum_by}
use Rattle.std.proofs.iter.Yields.{fronts}
use Rattle.std.proofs.lemmas.Iterator.{YieldsList, maps, YieldsList-from_slice, YieldsList-from_map}
use Rattle.std.proofs.lemmas.Iterator.Consumers.{YieldsList-at}
use Rattle.std.proofs.lemmas.List.{get_or_default}
use Rattle.std.proofs.lemmas.List.Concat.{length-flat_map}
use Rattle.std.proofs.lemmas.List.Folds.{fold-map, flat_map-map}
use Rattle.std.proofs.lemmas.List.Sums.{sum_by-le}
use Rattle.site_read.specs.Format.{encode_row, placed, held, loop_count, file_of}
use Rattle.loops.specs.declared.region.Region.{Region as RegionOf}
use Rattle.loops.specs.declared.region_loop.RegionLoop.{RegionLoop}
use Rattle.loops.specs.declared.place.Place.{Place}
use Rattle.loops.specs.declared.place.Place.TheVariants.{Vacant, Region, Contract}
use Rattle.loops.specs.Regions.{row_of, sets_of}
use Rattle.loops.specs.Loading.{table_of}
use Rattle.loops.specs.Places.{place_table}
use Rattle.loops.proofs.Bounds.{set_count, few_regions, few_targets}
use Rattle.site.specs.declared.site.Site.{Site}
use Rattle.site.specs.Loaded.{site_places, places_of}
use Rattle.site_write.proofs.Pastes.{words_length}
use Rattle.site_write.proofs.Saved.{site_length}

-- what a closure computes of each item of a slice
pub mapped : {A F R : Type 0} {f : F} {t : Iter A} {s : _} (g : Mut F (Bor A × Unit {0}) R) (h : A → R) (xs : List A) → map_source s ≡ t → iter_rest t ≡ xs → map_callee s ≡ f → ((x : Bor A) (r : R) (q : F) → Called g f (x, tt) r q → (q ≡ f) × (r ≡ h x.now)) → YieldsList (maps fronts g) (λ r. r) s (map h xs)
mapped g h xs source rest callee computes = YieldsList-from_map g h (YieldsList-at source (YieldsList-from_slice xs rest)) callee computes

sum_by_seen : (h : Place → ℕ) (ys : List (Bor Place)) → sum_by (λ (y : Bor Place). h y.now) ys ≡ sum_by h (map (λ (y : Bor Place). y.now) ys)
sum_by_seen h ys = sym (fold-map (λ (a : ℕ) (p : Place). a + h p) (λ (y : Bor Place). y.now) 0 ys)

abbrev pub row_length : RegionOf → ℕ
row_length r = length (encode_row (row_of r))

module _ (x : RegionLoop) where
  pub rows_length : sum_by row_length (vec_items x.regions) ≡ length (flat_map encode_row (table_of x))
  rows_length = sym (length-flat_map (λ r. encode_row (row_of r)) (vec_items x.regions)) ∙ ap length (sym (flat_map-map encode_row row_of (vec_items x.regions)))

  short : (i : ℕ) (d : RegionOf) → i < length (vec_items x.regions) → row_length (get_or (vec_items x.regions) i d) ≤ 130
  short i d l =
      let r : RegionOf = get_or (vec_items x.regions) i d in
      let w = words_length (sets_of r.targets) in
      let n = set_count r.targets in
      let f = few_targets x i r l (get_or_default (vec_items x.regions) i d r l) in
      omega arith

  pub rows_short : sum_by row_length (vec_items x.regions) ≤ 2080
  rows_short = let l = sum_by-le row_length 130 (vec_items x.regions) (λ i d h. short i d h) in let f = few_regions x in omega arith

short_place : (p : Place) → length (placed (place_table p)) ≤ 2082
short_place Vacant = omega arith
short_place (Region x) = omega (arith, rows_length x, rows_short x)
short_place (Contract x) = omega arith

one_loop : (p : Place) → held (place_table p) ≤ 1
one_loop Vacant = omega arith
one_loop (Region x) = omega arith
one_loop (Contract x) = omega arith

-- a sum over the places of a site
four_places : (h : Place → ℕ) (a b c d : Place) (ys : List (Bor Place)) → map (λ (y : Bor Place). y.now) ys ≡ a ∷ b ∷ c ∷ d ∷ [] → sum_by (λ (y : Bor Place). h y.now) ys ≡ h a + h b + h c + h d
four_places h a b c d ys e =
    omega (arith, sum_by_seen h ys ∙ ap (sum_by h) e)

module _ (s : Site) (ys : List (Bor Place)) (e : map (λ (y : Bor Place). y.now) ys ≡ places_of s) where
  pub loops_sum : sum_by (λ (y : Bor Place). held (place_table y.now)) ys ≡ loop_count (site_places s)
  loops_sum = four_places (λ p. held (place_table p)) _ _ _ _ ys e

  pub loops_few : sum_by (λ (y : Bor Place). held (place_table y.now)) ys ≤ 4
  loops_few =
      omega (arith, loops_sum, one_loop s.joined.left.left, one_loop s.joined.left.right, one_loop s.joined.right.left, one_loop s.joined.right.right)

  pub bytes_sum : 6 + sum_by (λ (y : Bor Place). length (placed (place_table y.now))) ys ≡ length (file_of (site_places s))
  bytes_sum = omega (arith, four_places (λ p. length (placed (place_table p))) _ _ _ _ ys e, site_length (site_places s))

  pub bytes_few : sum_by (λ (y : Bor Place). length (placed (place_table y.now))) ys ≤ 8328
  bytes_few =
      omega (
        arith,
        four_places (λ p. length (placed (place_table p))) _ _ _ _ ys e,
        short_place s.joined.left.left,
        short_place s.joined.left.right,
        short_place s.joined.right.left,
        short_place s.joined.right.right,
      )
