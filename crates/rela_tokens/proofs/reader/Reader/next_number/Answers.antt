use Rattle.std.proofs.Common.{◌+◌, ◌∙◌, List, ℕ, ap, drop, subst, true}
use Rattle.rela_tokens.specs.Reading.{TakesNumber, WritesNumber, tokens_from}
use Rattle.rela_tokens.proofs.Lexemes.{number_begun, rest_of}
use Rattle.rela_tokens.proofs.reader.Reader.next_number.Goals as goal

pub returns : goal.returns
returns c =
    let old = c.args.self.now in
    let b = c.as_bytes-text.result.now in
    let r = c.self.inside in
    let from = c.in_ok-from.from in
    let n = c.in_ok-number.number in
    let count = c.in_ok-number.count in
    let w = subst (λ (t : List ℕ). WritesNumber t n (drop count t)) (rest_of b from) c.in_ok-number.ensures.number in
    let view = ap (λ t. tokens_from r.after_value (drop r.at t)) c.as_bytes-text.ensures.value ∙ c.self.view_is in
    record {
      number = subst (λ (d : List ℕ). TakesNumber old n (tokens_from true (drop (from + count) d))) c.as_bytes-text.ensures.value
          (number_begun old b r.after_value r.at c.solid_from-front.result from count n view c.solid_from-front.ensures.same c.in_ok-from.ensures.begins w);
    }
