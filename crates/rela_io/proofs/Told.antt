-- How bytes that are told grow and shrink over several calls.
use Rattle.std.proofs.Common.{◌≡◌, ◌↔◌, ℕ, ◌+◌, ◌-◌, List, [], ◌++◌, take, drop, length, refl, ap, sym, ◌∙◌, append_assoc, append-nil, Option, Some, None, IfSome}
use Rattle.std.proofs.Math.Seq.{take-add}
use Rattle.std.proofs.lemmas.List.{take_rest}
use Rattle.rela_io.specs.Bytes.{before_told, after_told}

pub after_told-after_told : (told : Option (List ℕ)) (first second : List ℕ) → after_told (after_told told first) second ≡ after_told told (first ++ second)
after_told-after_told None first second = refl
after_told-after_told (Some front) first second = ap (λ xs. Some xs) (append_assoc front first second)

pub before_told-before_told : (first second : List ℕ) (told : Option (List ℕ)) → before_told first (before_told second told) ≡ before_told (first ++ second) told
before_told-before_told first second None = refl
before_told-before_told first second (Some rest) = ap (λ xs. Some xs) (sym (append_assoc first second rest))

-- a write of n more bytes of a text, after a first part of it
pub after_told-more : (told now new : Option (List ℕ)) (part n : ℕ) (bytes : List ℕ) → now ≡ after_told told (take part bytes)
    → new ≡ after_told now (take n (take (length bytes - part) (drop part bytes))) → new ≡ after_told told (take (part + n) bytes)
after_told-more told now new part n bytes first second =
    second ∙ ap (λ xs. after_told now (take n xs)) (take_rest bytes part)
    ∙ ap (λ t. after_told t (take n (drop part bytes))) first
    ∙ after_told-after_told told (take part bytes) (take n (drop part bytes))
    ∙ ap (λ xs. after_told told xs) (sym (take-add part n bytes))

-- a read of more bytes, after some that were kept
pub before_told-more : (told now new : Option (List ℕ)) (kept more : List ℕ) → told ≡ before_told kept now → now ≡ before_told more new → told ≡ before_told (kept ++ more) new
before_told-more told now new kept more first second = first ∙ ap (λ t. before_told kept t) second ∙ before_told-before_told kept more new

-- at the end of what is told, all of it was kept
pub before_told-end : (told now : Option (List ℕ)) (kept : List ℕ) (n : ℕ) → told ≡ before_told kept now → IfSome now (λ rest. (n ≡ 0) ↔ (rest ≡ [])) → n ≡ 0 → IfSome told (λ rest. rest ≡ kept)
before_told-end told None kept n taken ends none = rw taken tt
before_told-end told (Some rest) kept n taken ends none = let empty : rest ≡ [] = ends.0 none in rw (taken, empty, append-nil) refl
