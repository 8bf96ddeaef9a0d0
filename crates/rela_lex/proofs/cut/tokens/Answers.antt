use Rattle.std.proofs.Common.{◌≡◌, ℕ, List, ◌∙◌, length, take, drop, ◌-◌, inl, ap, sym, arith, Option, Err}
use Rattle.std.proofs.lemmas.List.{take_rest, length-drop}
use Rattle.rela_lex.specs.declared.error.SpecError.TheVariants.{BadToken, Memory}
use Rattle.rela_lex.specs.declared.front.Front.{Front}
use Rattle.rela_lex.specs.Front.{front_of, has_token}
use Rattle.rela_lex.proofs.Fronts.{front_within}
use Rattle.rela_lex.proofs.Cuts.{same_tokens, spelled_has_no_fault, same_fault}
use Rattle.rela_lex.proofs.Reached.{reached_more, reached_end, reached_fault, reached_token}
use Rattle.rela_lex.proofs.cut.tokens.Goals as goal

-- what was read at the offset
read_there : (text : List ℕ) (at : ℕ) (found read : Option Front) → found ≡ front_of (take (length text - at) (drop at text)) → found ≡ read
    → front_of (drop at text) ≡ read
read_there text at found read e f = ap front_of (sym (take_rest text at)) ∙ sym e ∙ f

pub returns-in_default-clause-fault : goal.returns-in_default-clause-fault
returns-in_default-clause-fault c =
    reached_fault c.args.bytes.now c.loop-at.at c.loop-at.tokens.items c.loop-at.invariant.reached c.loop-at-test.true
    (read_there c.args.bytes.now c.loop-at.at _ _ c.in_ok-token.ensures.piece c.in_default.is)

pub returns-in_default-clause-spelled : goal.returns-in_default-clause-spelled
returns-in_default-clause-spelled c = λ ts spelled.
    absurd (spelled_has_no_fault c.args.bytes.now ts c.loop-at.at spelled (returns-in_default-clause-fault c))

pub returns-in_default-clause-bad : goal.returns-in_default-clause-bad
returns-in_default-clause-bad c = λ at bad.
    inl (ap BadToken (same_fault c.args.bytes.now c.loop-at.at at (returns-in_default-clause-fault c) bad))

pub overflow_add-at : goal.overflow_add-at
overflow_add-at c =
    let within = front_within (drop c.loop-at.at c.args.bytes.now) c.in-Some.field-0 (read_there c.args.bytes.now c.loop-at.at _ _ c.in_ok-token.ensures.piece c.in-Some.is) in
    omega (arith, within.1, length-drop c.loop-at.at c.args.bytes.now)

pub loop-at-smaller : goal.loop-at-smaller
loop-at-smaller c =
    let within = front_within (drop c.loop-at.at c.args.bytes.now) c.in-Some.field-0 (read_there c.args.bytes.now c.loop-at.at _ _ c.in_ok-token.ensures.piece c.in-Some.is) in
    omega (arith, within.0, within.1, length-drop c.loop-at.at c.args.bytes.now)

pub loop-at-preserved : goal.loop-at-preserved
loop-at-preserved c =
    let read = read_there c.args.bytes.now c.loop-at.at _ _ c.in_ok-token.ensures.piece c.in-Some.is in
    let within = front_within (drop c.loop-at.at c.args.bytes.now) c.in-Some.field-0 read in
    record {
      within = omega (arith, within.1, length-drop c.loop-at.at c.args.bytes.now);
      reached =
          rw c.in_ok-keep.ensures.kept
          (reached_more c.args.bytes.now c.loop-at.at c.loop-at.tokens.items c.in-Some.field-0 c.loop-at.invariant.reached read);
    }

pub returns-clause-tokens : goal.returns-clause-tokens
returns-clause-tokens c = reached_end c.args.bytes.now c.loop-at.at c.loop-at.tokens.items c.loop-at.invariant.reached c.loop-at-test.false

pub returns-clause-spelled : goal.returns-clause-spelled
returns-clause-spelled c = λ ts spelled. same_tokens c.args.bytes.now c.loop-at.tokens.items ts (returns-clause-tokens c) spelled

pub returns-clause-bad : goal.returns-clause-bad
returns-clause-bad c = λ at bad. spelled_has_no_fault c.args.bytes.now c.loop-at.tokens.items at (returns-clause-tokens c) bad

pub returns-in_err-token-clause-fault : goal.returns-in_err-token-clause-fault
returns-in_err-token-clause-fault c =
    let fault : c.from_residual.result ≡ Err Memory = grind arith in
    rw fault
    (reached_token c.args.bytes.now c.loop-at.at c.loop-at.tokens.items c.loop-at.invariant.reached
    (ap (λ (text : List ℕ). has_token (front_of text)) (sym (take_rest c.args.bytes.now c.loop-at.at)) ∙ c.in_err-token.ensures.token))

pub returns-in_err-keep-clause-fault : goal.returns-in_err-keep-clause-fault
returns-in_err-keep-clause-fault c =
    let read = read_there c.args.bytes.now c.loop-at.at _ _ c.in_ok-token.ensures.piece c.in-Some.is in
    let fault : c.from_residual-in_err-keep.result ≡ Err Memory = grind arith in
    rw fault
    (reached_token c.args.bytes.now c.loop-at.at c.loop-at.tokens.items c.loop-at.invariant.reached
    (ap has_token read ∙ c.in_err-keep.ensures.some))
