-- What isn't there isn't told as want of memory.
use Rattle.std.proofs.Common.{◌≡◌, ◌∙◌, ℕ, List, Option, None, Some, Result, Err, ap}
use Rattle.std.specs.Option.{option_and_then}
use Rattle.serde_json.specs.Data.{Data}
use Rattle.rela_json.specs.declared.error.LoadError.{LoadError}
use Rattle.rela_json.specs.declared.error.LoadError.TheVariants.{Memory, WrongShape}
use Rattle.rela_json.specs.Fields.{part_of, string_of}
use Rattle.rela_json.specs.Parts.{member_of, text_of}
use Rattle.rela_json.specs.Results.{ok_or}

-- a call that fails as its part does tells no want of memory where the part can't
pub never : {A B X : Type 0} (r : Result B LoadError) (e : LoadError) (part : Result A LoadError) → r ≡ Err e → part ≡ Err e → (part ≡ Err Memory → ⊥) → r ≡ Err Memory → X
never r e part fails is apart memory =
    let same : e ≡ Memory = cc in
    absurd (apart (is ∙ ap (λ (x : LoadError). Err x) same))

ok_or_apart : {A : Type 0} (e : LoadError) (o : Option A) → (e ≡ Memory → ⊥) → ok_or e o ≡ Err Memory → ⊥
ok_or_apart e None apart is = let same : e ≡ Memory = cc in apart same
ok_or_apart e (Some x) apart is = let clash = is in cc

wrong_apart : (rule row : ℕ) → WrongShape rule row ≡ Memory → ⊥
wrong_apart rule row is = let clash = is in cc

pub part_apart : (name : List ℕ) (rule row : ℕ) (d : Data) → part_of name rule row d ≡ Err Memory → ⊥
unfolding part_of
part_apart name rule row d = ok_or_apart (WrongShape rule row) (member_of name d) (wrong_apart rule row)

pub string_apart : (rule row : ℕ) (o : Option Data) → string_of rule row o ≡ Err Memory → ⊥
unfolding string_of
string_apart rule row o = ok_or_apart (WrongShape rule row) (option_and_then text_of o) (wrong_apart rule row)
