-- The canonical text of a tree that a text spells is read as that tree, and as no other.
use Rattle.std.proofs.Common.{◌≡◌, List}
use Rattle.rela_lex.specs.declared.token.Token.{Token}
use Rattle.rela_spec.specs.Grammar.{Spells}
use Rattle.rela_print.specs.Print.{print_of}
use Rattle.rela_print.specs.ReadBack.{IsOfText, ReadsBack}
use Rattle.rela_spec.specs.declared.tree.SpecFile.{SpecFile}
use Rattle.rela_print.proofs.ItemsBack.{read_again}
use Rattle.rela_print.proofs.PrefixNames.{HaveTexts}

-- where tokens spell one tree at most
pub reads_back : HaveTexts → ((tokens : List Token) (a b : SpecFile) → Spells tokens a → Spells tokens b → a ≡ b)
    → (f : SpecFile) → IsOfText f → ReadsBack (print_of f) f
reads_back texts one f of_text =
    let again = read_again texts of_text.text of_text.tokens f of_text.cut of_text.spelled in
    record {
      tokens = again.tokens;
      cut = again.cut;
      again = again.tree;
      spelled = again.spelled;
      same = again.same;
      only = λ other spelled. one again.tokens other again.tree spelled again.spelled;
    }
