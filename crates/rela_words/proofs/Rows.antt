-- The rows of matches, as a use of an argument changes them.
use Rattle.std.proofs.Common.{◌≡◌, ◌++◌, Bool, true, false, List, [], ◌∷◌, Option, Some, None, refl, ap, ◌∙◌}
use Rattle.std.specs.Prelude.{find, is_some, unwrap_or, if◌then◌else◌}
use Rattle.std.specs.Str.{bytes_eq}
use Rattle.std.proofs.lemmas.Slice.Eq.{bytes_eq-Decides}
use Rattle.clap.specs.Walk.{Row, Text, all_of, has_row, with_values, without}
use Rattle.clap.specs.declared.builder.value_parser.Reading.{Reading}
use Rattle.clap.specs.declared.parser.matches.ValueSource.{ValueSource}

abbrev pub row_at : Text → List Row → Option Row
row_at id rows = find (λ r. bytes_eq r.id id) rows

abbrev pub values_at : Text → List Row → List Text
values_at id rows = unwrap_or (all_of id rows) []

same_id : (i : Text) → bytes_eq i i ≡ true
same_id i = (bytes_eq-Decides i i).1 refl

other_id : (r i j : Text) → bytes_eq r i ≡ true → bytes_eq i j ≡ false → bytes_eq r j ≡ false
other_id r i j same other = ap (λ x. bytes_eq x j) ((bytes_eq-Decides r i).0 same) ∙ other

pub has_find : (id : Text) (rows : List Row) → has_row id rows ≡ is_some (row_at id rows)
has_find id [] = refl
has_find id (r ∷ rs) = by (bytes_eq r.id id) refl (has_find id rs)
  where
    by : (b : Bool) → bytes_eq r.id id ≡ b → has_row id rs ≡ is_some (row_at id rs) → has_row id (r ∷ rs) ≡ is_some (row_at id (r ∷ rs))
    by true t rec = rw t refl
    by false t rec = rw t rec

module _ (i : Text) (how : Reading) (s : ValueSource) (vs : List Text) where
  abbrev added : List Row → List Row
  added rows = with_values i how s vs rows

  -- the other arguments keep their rows
  pub other_row : (j : Text) → bytes_eq i j ≡ false → (rows : List Row) → row_at j (added rows) ≡ row_at j rows
  other_row j other [] = rw other refl
  other_row j other (r ∷ rs) = by (bytes_eq r.id i) refl (other_row j other rs)
    where
      by : (b : Bool) → bytes_eq r.id i ≡ b → row_at j (added rs) ≡ row_at j rs → row_at j (added (r ∷ rs)) ≡ row_at j (r ∷ rs)
      by true t rec = let not_here : bytes_eq r.id j ≡ false = other_id r.id i j t other in rw (t, not_here) refl
      by false t rec = rw t (ap (λ o. if bytes_eq r.id j then Some r else o) rec)

  -- this one has more values
  pub more_values : (rows : List Row) → values_at i (added rows) ≡ values_at i rows ++ vs
  more_values [] = rw (same_id i) refl
  more_values (r ∷ rs) = by (bytes_eq r.id i) refl (more_values rs)
    where
      by : (b : Bool) → bytes_eq r.id i ≡ b → values_at i (added rs) ≡ values_at i rs ++ vs → values_at i (added (r ∷ rs)) ≡ values_at i (r ∷ rs) ++ vs
      by true t rec = rw (t, t) refl
      by false t rec = rw (t, t) rec

  abbrev new_row : Row
  new_row = record {
    id = i;
    values = vs;
    count = None;
    source = Some s;
    reading = how;
  }

  -- or a row, where it had none
  pub one_row : (rows : List Row) → row_at i rows ≡ None → row_at i (added rows) ≡ Some new_row
  one_row [] none = rw (same_id i) refl
  one_row (r ∷ rs) none = by (bytes_eq r.id i) refl (one_row rs)
    where
      by : (b : Bool) → bytes_eq r.id i ≡ b → (row_at i rs ≡ None → row_at i (added rs) ≡ Some new_row) → row_at i (added (r ∷ rs)) ≡ Some new_row
      by true t rec = absurd (let none_here : Some r ≡ None = rw t at none in cc)
      by false t rec = rw (t, t) (rec (rw t at none))

-- where there is no row, none is taken out
pub none_without : (id : Text) (rows : List Row) → row_at id rows ≡ None → without id rows ≡ rows
none_without id [] none = refl
none_without id (r ∷ rs) none = by (bytes_eq r.id id) refl (none_without id rs)
  where
    by : (b : Bool) → bytes_eq r.id id ≡ b → (row_at id rs ≡ None → without id rs ≡ rs) → without id (r ∷ rs) ≡ r ∷ rs
    by true t rec = absurd (let none_here : Some r ≡ None = rw t at none in cc)
    by false t rec = rw t (ap (λ l. r ∷ l) (rec (rw t at none)))
