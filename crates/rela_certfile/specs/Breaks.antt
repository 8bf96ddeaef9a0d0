-- Where a text ceases to be a certificate.
use Rattle.std.specs.Prelude.{◌≡◌, ◌≢◌, ℕ, ◌+◌, List, [], ◌∷◌, ◌++◌, length}
use Rattle.rela_certfile.specs.declared.rows.ListedRow.{ListedRow}
use Rattle.rela_certfile.specs.Layout.{Layout}
use Rattle.rela_certfile.specs.Listed.{AreListed}
use Rattle.rela_certfile.specs.Text.{ended, lines_of}

-- some certificate begins with these lines
pub record Begins (l : Layout) (lines : List (List ℕ)) : Type 0 where
  pub rows : List ListedRow
  pub more : List (List ℕ)
  pub listed : AreListed l rows
  pub begun : lines_of l rows ≡ lines ++ more

-- The lines before this number begin a certificate; with the next line they don't, or no whole line is left; and
-- they aren't a whole certificate that the text ends with.
pub record BreaksAt (l : Layout) (text : List ℕ) (number : ℕ) : Type 0 where
  pub before : List (List ℕ)
  pub after : List ℕ
  pub numbered : number ≡ length before + 1
  pub cut : text ≡ ended before ++ after
  pub begins : Begins l before
  pub breaks : (next : List ℕ) (rest : List ℕ) → after ≡ (next ++ 10 ∷ []) ++ rest →
      ¬ Begins l (before ++ next ∷ [])
  pub unfinished : after ≡ [] → (rows : List ListedRow) → AreListed l rows →
      lines_of l rows ≢ before

-- more lines of the text than its first begin a certificate
pub record GoesOn (l : Layout) (text : List ℕ) : Type 0 where
  pub before : List (List ℕ)
  pub next : List ℕ
  pub after : List ℕ
  pub cut : text ≡ ended (before ++ next ∷ []) ++ after
  pub some : before ≢ []
  pub begins : Begins l (before ++ next ∷ [])
