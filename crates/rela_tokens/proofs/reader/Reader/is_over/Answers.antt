use Rattle.std.proofs.Common.{◌≡◌, ◌∙◌, List, ℕ, [], ap, drop, length, subst, sym, arith}
use Rattle.std.proofs.lemmas.Bool.{eqb-true}
use Rattle.rela_tokens.specs.Reading.{tokens_from}
use Rattle.rela_tokens.proofs.Lexemes.{over}
use Rattle.rela_tokens.proofs.reader.Reader.is_over.Goals as goal

pub returns : goal.returns
returns c is =
    let b = c.as_bytes.result.now in
    let r = c.self.inside in
    let end : c.solid_from.result ≡ length r.text.now = eqb-true c.solid_from.result (length r.text.now) is in
    let long = ap length c.as_bytes.ensures.value in
    sym c.self.view_is ∙ subst (λ (d : List ℕ). tokens_from r.after_value (drop r.at d) ≡ []) c.as_bytes.ensures.value
    (over b r.after_value r.at c.solid_from.result c.solid_from.ensures.same (omega (arith, end, long)))
