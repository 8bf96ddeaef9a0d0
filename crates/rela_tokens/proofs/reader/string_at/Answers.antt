use Rattle.std.proofs.Common.{◌≡◌, ◌+◌, ◌-◌, ◌∷◌, ◌∙◌, ◌<◌, List, ℕ, ap, drop, false, true, get_or, length, take, subst, sym, arith}
use Rattle.std.proofs.lemmas.List.{get_or_default}
use Rattle.std.proofs.lemmas.Str.{IsCharBoundary-after_ascii}
use Rattle.json.specs.Lex.{between, lex, punctuate}
use Rattle.json.specs.Token.{key, string}
use Rattle.rela_tokens.specs.Reading.{tokens_from}
use Rattle.rela_tokens.proofs.Lexemes.{inside, is_key, is_string}
use Rattle.rela_tokens.proofs.reader.string_at.Goals as goal

pub range-string-requires-clause-start_boundary : goal.range-string-requires-clause-start_boundary
range-string-requires-clause-start_boundary c some =
    let d = c.args.text.now in
    let lt : c.args.from < length d = inside d c.args.from 34 c.requires (λ e. omega arith) in
    let quote : get_or d c.args.from 0 ≡ 34 = get_or_default d c.args.from 0 32 lt ∙ c.requires in
    IsCharBoundary-after_ascii d c.args.from c.utf8.text lt (omega (arith, quote))

pub returns-then-byte_at-eq58-clause-token : goal.returns-then-byte_at-eq58-clause-token
returns-then-byte_at-eq58-clause-token c p may =
    let b = c.as_bytes-bytes.result.now in
    let is = c.as_bytes-bytes.ensures.value in
    let i = c.args.from in
    let end = c.plain_end-end.result in
    let at = c.solid_from-front.result in
    let s = c.range-string.result.now in
    let opens : get_or b i 32 ≡ 34 = ap (λ t. get_or t i 32) is ∙ c.requires in
    let closes : get_or b end 32 ≡ 34 = omega (arith, c.byte_at.ensures.byte) in
    let colon : get_or b at 32 ≡ 58 = omega (arith, c.byte_at-2.ensures.byte) in
    let text : s ≡ take (end - (i + 1)) (drop (i + 1) b) = c.range-string.ensures.value ∙ ap (λ t. take (end - (i + 1)) (drop (i + 1) t)) (sym is) in
    subst (λ (d : List ℕ). punctuate p (lex between (drop i d)) ≡ key s ∷ tokens_from false (drop (at + 1) d)) is
    (is_key b p may i end at s opens c.plain_end-end.ensures.end closes text c.solid_from-front.ensures.same colon)

pub returns-else-byte_at-eq58-clause-token : goal.returns-else-byte_at-eq58-clause-token
returns-else-byte_at-eq58-clause-token c p may =
    let b = c.as_bytes-bytes.result.now in
    let is = c.as_bytes-bytes.ensures.value in
    let i = c.args.from in
    let end = c.plain_end-end.result in
    let at = c.solid_from-front.result in
    let s = c.range-string.result.now in
    let opens : get_or b i 32 ≡ 34 = ap (λ t. get_or t i 32) is ∙ c.requires in
    let closes : get_or b end 32 ≡ 34 = omega (arith, c.byte_at.ensures.byte) in
    let text : s ≡ take (end - (i + 1)) (drop (i + 1) b) = c.range-string.ensures.value ∙ ap (λ t. take (end - (i + 1)) (drop (i + 1) t)) (sym is) in
    subst (λ (d : List ℕ). punctuate p (lex between (drop i d)) ≡ string s ∷ tokens_from true (drop at d)) is
    (is_string b p may i end at s opens c.plain_end-end.ensures.end closes text c.solid_from-front.ensures.same (λ e. omega (arith, c.byte_at-2.ensures.byte, e)) c.solid_from-front.ensures.solid)
