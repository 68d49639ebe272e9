-- A refusal in words.
use Rattle.std.specs.Prelude.{ℕ, List, [], ◌∷◌, ◌++◌, codes, decimal}
use Rattle.game.specs.declared.solution.Refusal.{Refusal}
use Rattle.game.specs.Answers.{told}

-- of what it tells: its number; with a count, the states of mark 0 and the rounds, that there is no schedule
abbrev pub words : ℕ → List ℕ → List ℕ
words n (k ∷ w ∷ r ∷ []) =
    codes "no schedule: count " ++ (decimal k ++ (codes ", winning " ++ (decimal w ++ (codes ", rounds " ++ decimal r))))
words n _ = codes "refused " ++ decimal n

abbrev pub refusal_words : Refusal → List ℕ
refusal_words e = words (told e).number (told e).values
