use Rattle.std.proofs.Common.{◌≡◌, arith}
use Rattle.rela_subset.specs.Deterministic.{states}
use Rattle.rela_minimise.proofs.LeadingAlike.{kind_alike, kind_column, kind_more, kind_none}
use Rattle.rela_minimise.proofs.columns.kind_of.Goals as goal

pub loop-q-init : goal.loop-q-init
loop-q-init g c =
    kind_none c.args.dfa.now (g.L.LabelSet.letters c.args.rest.now) c.args.letter (g.L.LabelSet.letters c.in_ok-letters.letters) c.in_ok-column.column.items c.requires.size c.in_ok-letters.ensures.same c.in_ok-column.ensures.items

pub loop-q-preserved : goal.loop-q-preserved
loop-q-preserved g c =
    kind_more c.args.dfa.now (g.L.LabelSet.letters c.args.rest.now) c.args.letter c.loop-q.q (g.L.LabelSet.letters c.loop-q.letters) (g.L.LabelSet.letters c.in_ok-part.part.letters) c.loop-q.column.items c.push.new.self.items
    c.in_ok-part.part.to c.loop-q.invariant c.in_ok-part.ensures.size c.in_ok-part.ensures.itself c.in_ok-part.ensures.alike c.in_ok-part.ensures.leads c.in_ok-part.ensures.state c.in_ok-push.ensures.items

pub returns-clause-alike : goal.returns-clause-alike
returns-clause-alike g c =
    let all : c.loop-q.q ≡ states c.args.dfa.now = omega arith in
    kind_alike c.args.dfa.now (g.L.LabelSet.letters c.args.rest.now) c.args.letter c.loop-q.q (g.L.LabelSet.letters c.loop-q.letters) c.loop-q.column.items all c.loop-q.invariant

pub returns-clause-column : goal.returns-clause-column
returns-clause-column g c =
    let all : c.loop-q.q ≡ states c.args.dfa.now = omega arith in
    kind_column c.args.dfa.now (g.L.LabelSet.letters c.args.rest.now) c.args.letter c.loop-q.q (g.L.LabelSet.letters c.loop-q.letters) c.loop-q.column.items all c.loop-q.invariant
