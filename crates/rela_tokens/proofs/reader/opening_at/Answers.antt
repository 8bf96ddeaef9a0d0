use Rattle.std.proofs.Common.{◌≡◌, ◌+◌, ◌∷◌, ◌∙◌, List, ℕ, drop, false, true, subst, sym}
use Rattle.json.specs.Lex.{between, lex, punctuate}
use Rattle.json.specs.Token.{begin_array, begin_object}
use Rattle.rela_tokens.specs.Reading.{TakesNumber, WritesNumber, tokens_from}
use Rattle.rela_tokens.proofs.Lexemes.{opens_array, opens_object, rest_of, writes}
use Rattle.rela_tokens.proofs.reader.opening_at.Goals as goal

pub returns-in-123-clause-token : goal.returns-in-123-clause-token
returns-in-123-clause-token c p may =
    subst (λ (d : List ℕ). punctuate p (lex between (drop c.args.from d)) ≡ begin_object ∷ tokens_from false (drop (c.args.from + 1) d)) c.as_bytes-bytes.ensures.value
    (opens_object c.as_bytes-bytes.result.now p may c.args.from (sym c.byte_at.ensures.byte ∙ c.in-123.is))

pub returns-in-91-clause-token : goal.returns-in-91-clause-token
returns-in-91-clause-token c p may =
    subst (λ (d : List ℕ). punctuate p (lex between (drop c.args.from d)) ≡ begin_array ∷ tokens_from false (drop (c.args.from + 1) d)) c.as_bytes-bytes.ensures.value
    (opens_array c.as_bytes-bytes.result.now p may c.args.from (sym c.byte_at.ensures.byte ∙ c.in-91.is))

pub returns-in_ok-number-in_default-clause-token : goal.returns-in_ok-number-in_default-clause-token
returns-in_ok-number-in_default-clause-token c p may =
    let b = c.as_bytes-bytes.result.now in
    let i = c.args.from in
    let n = c.in_ok-number-in_default.number in
    let count = c.in_ok-number-in_default.count in
    let w = subst (λ (t : List ℕ). WritesNumber t n (drop count t)) (rest_of b i) c.in_ok-number-in_default.ensures.number in
    subst (λ (d : List ℕ). TakesNumber (punctuate p (lex between (drop i d))) n (tokens_from true (drop (i + count) d))) c.as_bytes-bytes.ensures.value
    (writes b p may i count n w)
