use Rattle.std.proofs.Common.{◌≡◌, ◌+◌, ◌∷◌, ◌∙◌, List, ℕ, drop, true, subst, sym}
use Rattle.json.specs.Token.{end_array, end_object}
use Rattle.rela_tokens.specs.Reading.{tokens_from}
use Rattle.rela_tokens.proofs.Lexemes.{closes_array, closes_object}
use Rattle.rela_tokens.proofs.reader.token_at.Goals as goal

pub returns-in-125-clause-token : goal.returns-in-125-clause-token
returns-in-125-clause-token c =
    subst (λ (d : List ℕ). tokens_from c.args.after_value (drop c.args.at d) ≡ end_object ∷ tokens_from true (drop (c.solid_from-front.result + 1) d)) c.as_bytes-bytes.ensures.value
    (closes_object c.as_bytes-bytes.result.now c.args.after_value c.args.at c.solid_from-front.result c.solid_from-front.ensures.same (sym c.byte_at.ensures.byte ∙ c.in-125.is))

pub returns-in-93-clause-token : goal.returns-in-93-clause-token
returns-in-93-clause-token c =
    subst (λ (d : List ℕ). tokens_from c.args.after_value (drop c.args.at d) ≡ end_array ∷ tokens_from true (drop (c.solid_from-front.result + 1) d)) c.as_bytes-bytes.ensures.value
    (closes_array c.as_bytes-bytes.result.now c.args.after_value c.args.at c.solid_from-front.result c.solid_from-front.ensures.same (sym c.byte_at.ensures.byte ∙ c.in-93.is))
