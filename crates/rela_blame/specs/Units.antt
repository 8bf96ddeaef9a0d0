-- Where the units of a specification stand in its text.
use Rattle.std.specs.Prelude.{ℕ, Bool, false, ◌&&◌, not, List, [], ◌∷◌, if◌then◌else◌}
use Rattle.rela_lex.specs.declared.token.Token.{Token}
use Rattle.rela_spec.specs.Grammar.{is_mark_of}

-- The tokens begin with the `{` of a unit: with a `{` that opens no number, behind which a `}`
-- would stand two places on.
unfoldable pub opens_unit : List Token → Bool
opens_unit (a ∷ b ∷ c ∷ others) = is_mark_of 123 a.kind && not (is_mark_of 125 c.kind)
opens_unit _ = false

-- how many bytes of the text stand before the `{` of each unit, in the order of the text
unfoldable pub unit_offsets : List Token → List ℕ
unit_offsets [] = []
unit_offsets (t ∷ others) = if opens_unit (t ∷ others) then t.at ∷ unit_offsets others
    else unit_offsets others
