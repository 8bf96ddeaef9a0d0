-- Tokens spell one tree at most.
use Rattle.std.proofs.Common.{◌≡◌, Result, Ok, Err, List, [], ◌∷◌, length, refl, sym, ap, ◌∙◌, subst}
use Rattle.rela_lex.specs.declared.error.SpecError.{SpecError}
use Rattle.rela_lex.specs.declared.error.SpecError.TheVariants.{Memory}
use Rattle.rela_lex.specs.declared.token.Token.{Token}
use Rattle.rela_spec.specs.Grammar.{SameNext, Grammar, Spells, file}
use Rattle.rela_spec.specs.ReadFile.{read_file}
use Rattle.rela_spec.specs.declared.tree.SpecFile.{SpecFile}
use Rattle.rela_spec.proofs.Decided.{Gives, of_file}
use Rattle.rela_spec.proofs.Exact.{Outcome}
use Rattle.rela_spec.proofs.ExactFile.{anything, exact_file}
use Rattle.rela_spec.proofs.ExactPrefixes.{AreFound}
use Rattle.rela_spec.proofs.Verdicts.{parsed_fault, fault_not_spelled}

same_next : (ts : List Token) → SameNext ts ts
same_next [] = refl
same_next (t ∷ ts) = (ts, refl)

-- tokens are read, or have a fault, and where a tree is spelled it is read
is_read : AreFound → (tokens : List Token) (tree : SpecFile) → Spells tokens tree → (found : Result (SpecFile × List Token) SpecError) → read_file 0 100 tokens ≡ found
    → (read : SpecFile) × ((other : SpecFile) → Grammar tokens other → other ≡ read)
is_read are_found tokens tree spelled (Ok found) e =
    let read = subst (λ (x : Result (SpecFile × List Token) SpecError). Outcome (λ d. file d) anything 100 100 100 0 tokens x) e ((exact_file are_found 0 100).outcome tokens) in
    (found.0, λ other g. (read.only g.nested found.1 (same_next found.1) other [] (subst (λ (x : List Token). file g.nested x other []) read.joined g.spelled) refl).0)
is_read are_found tokens tree spelled (Err fault) e =
    let memory : fault ≡ Memory = fault_not_spelled tokens 0 fault (parsed_fault are_found 0 tokens fault e) tree spelled in
    absurd (subst (Gives (length tokens) 0) (e ∙ ap Err memory) ((of_file 0 100).gives tokens))

-- tokens spell one tree at most
pub one_tree : AreFound → (tokens : List Token) (a b : SpecFile) → Spells tokens a → Spells tokens b → a ≡ b
one_tree are_found tokens a b first second =
    let read = is_read are_found tokens a first (read_file 0 100 tokens) refl in
    read.1 a first.grammar ∙ sym (read.1 b second.grammar)
