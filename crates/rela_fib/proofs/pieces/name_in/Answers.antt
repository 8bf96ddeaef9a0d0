use Rattle.std.proofs.Common.{◌≡◌, ◌∙◌, ap, sym, subst, ℕ, List, [], Option}
use Rattle.std.specs.Prelude.{unwrap_or}
use Rattle.std.specs.Option.{option_copied}
use Rattle.std.proofs.lemmas.Option.{unwrap_or-slice_get}
use Rattle.json.specs.Print.{escape}
use Rattle.rela_fib.proofs.Plain.{name_escape}
use Rattle.rela_fib.proofs.pieces.name_in.Goals as goal

pub returns-in-Some-clause-plain : goal.returns-in-Some-clause-plain
returns-in-Some-clause-plain c = subst (λ (s : List ℕ). escape s ≡ s) (sym c.as_bytes.ensures.bytes) (name_escape c.in-Some.name.now c.as_bytes.ensures.name)

pub returns-in-None-clause-name : goal.returns-in-None-clause-name
returns-in-None-clause-name c = ap (λ (o : Option (List ℕ)). unwrap_or o []) (sym (ap option_copied c.in-None.is) ∙ c.name_of.ensures.name) ∙ unwrap_or-slice_get c.args.alphabet.now c.args.symbol []
