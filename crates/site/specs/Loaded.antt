-- What loading a file leaves, and which files are accepted.
use Rattle.std.specs.Prelude.{◌≡◌, ℕ, true, List, [], ◌∷◌, Ok, Err, Result, ◌≢◌, ◌↔◌}
use Rattle.site_read.specs.declared.fault.Fault.{Fault}
use Rattle.site_read.specs.Format.{Places, LawfulSite, file_of}
use Rattle.site_read.specs.Beginnings.{FaultIn}
use Rattle.loops.specs.declared.load_fault.LoadFault.{LoadFault}
use Rattle.loops.specs.declared.load_fault.LoadFault.TheVariants.{File, Memory}
use Rattle.loops.specs.declared.place.Place.{Place}
use Rattle.site.specs.declared.site.Site.{Site}
use Rattle.site.specs.Held.{held_by, has_region_loop}

abbrev pub site_places : Site → Places
site_places s = held_by s.joined.left.left s.joined.left.right s.joined.right.left s.joined.right.right

-- its places, in file order
abbrev pub places_of : Site → List Place
places_of s = s.joined.left.left ∷ s.joined.left.right ∷ s.joined.right.left ∷ s.joined.right.right ∷ []

-- a site with a region loop was read, and nothing is at fault: only then may there be want of memory
abbrev pub RegionLoopsRead : Result Places Fault → Type 0
RegionLoopsRead s = (p : Places) × (s ≡ Ok p) × (has_region_loop p ≡ true)

-- the site holds what the file says; or the file's fault is answered, or want of memory, and the site is as it was
abbrev pub Loaded : Result Places Fault → Site → Site → Result (Unit {0}) LoadFault → Type 0
Loaded s old new (Ok _) = s ≡ Ok (site_places new)
Loaded s old new (Err (File e)) = (s ≡ Err e) × (new ≡ old)
Loaded s old new (Err Memory) = RegionLoopsRead s × (new ≡ old)

-- An accepted file is the file of the site that it is read as, which is lawful; a refused one is that of no lawful site. Want
-- of memory comes only for the file of a lawful site with a region loop
abbrev pub Accepted : List ℕ → Result Site LoadFault → Type 0
Accepted file (Ok s) = LawfulSite (site_places s) × (file ≡ file_of (site_places s))
Accepted file (Err (File e)) = (p : Places) → LawfulSite p → file ≢ file_of p
Accepted file (Err Memory) = (p : Places) × LawfulSite p × (file ≡ file_of p) × (has_region_loop p ≡ true)

-- it is read as this site, unless memory is wanted for its region loops
abbrev pub ReadAs : Places → Result Site LoadFault → Type 0
ReadAs p (Ok s) = site_places s ≡ p
ReadAs p (Err (File e)) = ⊥
ReadAs p (Err Memory) = has_region_loop p ≡ true

-- the file of a lawful site is accepted, as that site
abbrev pub FileIsRead : List ℕ → Result Site LoadFault → Type 0
FileIsRead file r = (p : Places) → LawfulSite p → file ≡ file_of p → ReadAs p r

-- the file's fault is answered, and no other: a file that has none is not refused
abbrev pub FaultIsTold : List ℕ → Result Site LoadFault → Type 0
FaultIsTold file r = (fault : Fault) → (r ≡ Err (File fault)) ↔ FaultIn file fault

-- a load that leaves the site `new`, as a reading of that site
abbrev pub leaving : Site → Result (Unit {0}) LoadFault → Result Site LoadFault
leaving new (Ok _) = Ok new
leaving new (Err y) = Err y
