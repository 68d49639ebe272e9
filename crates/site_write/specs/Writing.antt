-- What writing a site answers, and what it leaves in the caller's buffer.
use Rattle.std.specs.Prelude.{◌≡◌, ℕ, not, List, [], ◌∷◌, ◌++◌, length, drop, Ok, Err, Option, Result, ◌==◌, nat_le}
use Rattle.traffic.specs.Refusals.{first_unmet, unless}
use Rattle.site_read.specs.Format.{Bytes, Places, loop_count, file_of}
use Rattle.site_read.specs.Sites.{site}
use Rattle.site_write.specs.declared.write.WriteFault.{WriteFault}
use Rattle.site_write.specs.declared.write.WriteFault.TheVariants.{NoLoops, TooShort}

-- a site without loops is refused first, and then a buffer that is too short
abbrev pub write_fault : Places → List ℕ → Option WriteFault
write_fault p out =
    first_unmet ((not (loop_count p == 0), NoLoops) ∷ (nat_le (length (file_of p)) (length out), TooShort (length (file_of p))) ∷ [])

abbrev pub write_answer : Places → List ℕ → Result ℕ WriteFault
write_answer p out = unless Err (write_fault p out) (Ok (length (file_of p)))

-- the file at the front of the buffer, and the buffer behind it as it was
abbrev pub write_output : Places → List ℕ → List ℕ
write_output p out = unless (λ f. out) (write_fault p out) (file_of p ++ drop (length (file_of p)) out)

-- these bytes load to the site, and no other file does
pub record OnlyFile (p : Places) (bytes : List ℕ) : Type 0 where
  pub loads : site bytes ≡ Ok p
  pub only : (file : List ℕ) → Bytes file → site file ≡ Ok p → file ≡ bytes
