-- What `reading` is, by whether the bytes are UTF-8.
use Rattle.std.proofs.Common.{◌≡◌, ℕ, List, Bool, true, false, cond, Some, None, refl, ap, ◌∙◌}
use Rattle.std.specs.Str.{IsUtf8, is_utf8}
use Rattle.std.proofs.lemmas.Str.{IsUtf8-from_is_utf8, is_utf8-from_IsUtf8}
use Rattle.serde_json.specs.Data.{Data}
use Rattle.serde_json.specs.Read.{read}
use Rattle.rela_json.specs.Reading.{reading}

pub reading_some : (bytes : List ℕ) (d : Data) → IsUtf8 bytes → read bytes ≡ Some d → reading bytes ≡ Some d
unfolding reading
reading_some bytes d text is = ap (λ b. cond b (read bytes) None) (is_utf8-from_IsUtf8 bytes text) ∙ is

none_by : (bytes : List ℕ) (b : Bool) → is_utf8 bytes ≡ b → (IsUtf8 bytes → read bytes ≡ None) → cond b (read bytes) None ≡ None
none_by bytes true e none = none (IsUtf8-from_is_utf8 bytes e)
none_by bytes false e none = refl

pub reading_none : (bytes : List ℕ) → (IsUtf8 bytes → read bytes ≡ None) → reading bytes ≡ None
unfolding reading
reading_none bytes none = none_by bytes (is_utf8 bytes) refl none
