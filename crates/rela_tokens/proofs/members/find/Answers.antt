use Rattle.std.proofs.Common.{◌≡◌, ◌<◌, ◌≤◌, ◌+◌, ◌-◌, ◌∙◌, Some, length, get_or, sym, ap, arith}
use Rattle.std.proofs.lemmas.Slice.Eq.{bytes_eq-Decides}
use Rattle.rela_tokens.specs.Pieces.{data_of}
use Rattle.rela_tokens.proofs.Found.{differs, last_here, last_other, same_at}
use Rattle.rela_tokens.proofs.members.find.Goals as goal

pub returns-then-eq : goal.returns-then-eq
returns-then-eq c =
    let ms = c.args.members.now in
    let n = c.loop-left.left in
    let m = c.index-members-left.result in
    let some : 0 < n = c.loop-left-test.true in
    let few : n ≤ length ms = c.loop-left.invariant.few in
    let one : n ≡ (n - 1) + 1 = omega arith in
    let lt : n - 1 < length ms = omega arith in
    let named : (get_or ms (n - 1) m).name.now ≡ c.args.name.now = (bytes_eq-Decides (get_or ms (n - 1) m).name.now c.args.name.now).0 (sym c.if-eq.ensures) in
    let same : m.name.now ≡ c.args.name.now = ap (λ x. x.name.now) c.index-members-left.is ∙ named in
    record {
      found = ap (λ x. Some (data_of x.piece)) (same_at ms (n - 1) c.index-members-left-then-eq.result m lt ∙ sym c.index-members-left.is)
          ∙ sym (last_here c.args.name.now n (n - 1) ms m one few c.index-members-left.is same) ∙ c.loop-left.invariant.same;
    }

pub loop-left-preserved : goal.loop-left-preserved
loop-left-preserved c =
    let ms = c.args.members.now in
    let n = c.loop-left.left in
    let m = c.index-members-left.result in
    let some : 0 < n = c.loop-left-test.true in
    let few : n ≤ length ms = c.loop-left.invariant.few in
    let one : n ≡ (n - 1) + 1 = omega arith in
    let other = λ (e : c.args.name.now ≡ m.name.now). differs (get_or ms (n - 1) m).name.now c.args.name.now (sym c.if-eq.ensures) (e ∙ ap (λ x. x.name.now) c.index-members-left.is) in
    record {
      same = sym (last_other c.args.name.now n (n - 1) ms m one few c.index-members-left.is other) ∙ c.loop-left.invariant.same;
      few = omega arith;
    }
