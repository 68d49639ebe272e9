-- What the regions of the code stand for.
use Rattle.std.specs.Prelude.{ℕ, ◌+◌, Bool, true, ◌&&◌, List, [], ◌∷◌, map, vec_items, Vec, ◌==◌}
use Rattle.std.specs.declared.alloc.Global.{Global}
use Rattle.site_read.specs.Tables.{Row}
use Rattle.loops.specs.declared.region.RegionSet.{RegionSet}
use Rattle.loops.specs.declared.region.Region.{Region}

abbrev pub sets_of : Vec RegionSet Global → List ℕ
sets_of v = map (λ (s : RegionSet). s.0) (vec_items v)

abbrev pub row_of : Region → Row
row_of r = record { earliest = r.earliest; deadline = r.deadline; targets = sets_of r.targets }

abbrev pub rows_of : List Region → List Row
rows_of rs = map row_of rs

-- the states of the regions are numbered from n on, one region after another
abbrev pub numbered : ℕ → List Region → Bool
numbered n [] = true
numbered n (r ∷ rs) = r.first_state == n && numbered (n + r.deadline) rs
