use Rattle.std.proofs.Common.{◌≡◌, ◌+◌, ◌∷◌, ◌∙◌, List, ℕ, ap, drop, subst, sym, true}
use Rattle.json.specs.Json.{after_end_array}
use Rattle.json.specs.Token.{end_array}
use Rattle.rela_tokens.specs.Reading.{tokens_from}
use Rattle.rela_tokens.proofs.Lexemes.{closes_array}
use Rattle.rela_tokens.proofs.reader.Reader.take_end_array.Goals as goal

pub returns : goal.returns
returns c =
    let b = c.as_bytes-text.result.now in
    let r = c.self.inside in
    let front = c.solid_from-front.result in
    let closed = subst (λ (d : List ℕ). tokens_from r.after_value (drop r.at d) ≡ end_array ∷ tokens_from true (drop (front + 1) d)) c.as_bytes-text.ensures.value
    (closes_array b r.after_value r.at front c.solid_from-front.ensures.same (sym c.byte_at.ensures.byte ∙ c.if-byte_at-ne93.false)) in
    record { bracket = ap after_end_array (sym c.self.view_is ∙ closed) }
