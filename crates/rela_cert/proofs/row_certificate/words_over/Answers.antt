use Rattle.std.proofs.Common.{ℕ, List, ap, subst}
use Rattle.std.specs.Option.{IfSome}
use Rattle.std.specs.Result.{IfOk}
use Rattle.rela_build.specs.Lettering.{Lettering}
use Rattle.rela_cert.specs.Found.{AreRowWords}
use Rattle.rela_cert.proofs.row_certificate.words_over.Goals as goal

pub returns-clause-words : goal.returns-clause-words
returns-clause-words c =
    subst (λ (bs : List ℕ). IfOk c.words_of_row.result (λ found. IfSome found (λ ws. AreRowWords c.args.row.now bs ws.complements.items ws.images)))
    (ap (λ (l : Lettering). l.blocks) c.in_ok-letters.ensures) c.words_of_row.ensures.words
