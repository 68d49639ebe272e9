-- What a buffer holds.
use Rattle.std.specs.Prelude.{◌≡◌, ℕ, List, ◌++◌}
use Rattle.std.proofs.Math.ListN.{replicate}

-- the file, and behind it nothing but bytes of one kind
abbrev pub IsFileThen : List ℕ → List ℕ → ℕ → Type 0
IsFileThen buffer file behind = (n : ℕ) × (buffer ≡ file ++ replicate n behind)
