use Rattle.std.proofs.Common.{◌+◌, ◌<◌, ◌↔◌, map, ◌∙◌, sym, subst}
use Rattle.std.proofs.lemmas.Result.{IfOk-weaker}
use Rattle.rela_nfa.specs.Runs.{Reach, Accepts}
use Rattle.rela_trans.specs.Relations.{PairJoins}
use Rattle.rela_trans.specs.Runs.{ReachR, Relates}
use Rattle.rela_trans.proofs.Lifted.{read_then_written}
use Rattle.rela_trans.proofs.transducer.Transducer.product.Goals as goal

pub returns-clause-letters : goal.returns-clause-letters
returns-clause-letters g c = IfOk-weaker c.into_concat.result _ _ (λ t same. same ∙ c.in_ok-reading.ensures.letters) c.into_concat.ensures.letters

pub returns-clause-states : goal.returns-clause-states
returns-clause-states g c =
    IfOk-weaker c.into_concat.result _ _ (λ t same. same ∙ (λ i. c.in_ok-reading.ensures.states i + c.in_ok-writing.ensures.states i)) c.into_concat.ensures.states

pub returns-clause-first : goal.returns-clause-first
returns-clause-first g c =
    IfOk-weaker c.into_concat.result _ _ (λ t first read q u v below.
    let copy = first read q u v (subst (λ n. q < n) (sym c.in_ok-reading.ensures.states) below) in
    let on = c.in_ok-reading.ensures.reached read q u v in
    (λ reach. on.0 (copy.0 reach), λ word. copy.1 (on.1 word))) c.into_concat.ensures.first

pub returns-clause-second : goal.returns-clause-second
returns-clause-second g c =
    IfOk-weaker c.into_concat.result _ _ (λ t second read q u v.
    let r = c.in_ok-reading.reading in
    let w = c.in_ok-writing.writing in
    let copy =
    subst (λ n. ReachR read t (n + q) u v ↔ PairJoins (Relates read r) (ReachR read w q) u v) c.in_ok-reading.ensures.states (second read q u v) in
    let both =
    read_then_written (λ x. Accepts c.args.a.now (map read x)) (λ x. Reach c.args.b.now q (map read x)) (Relates read r) (ReachR read w q)
    (c.in_ok-reading.ensures.relation read) (c.in_ok-writing.ensures.reached read q) u v in
    (λ reach. both.0 (copy.0 reach), λ words. copy.1 (both.1 words))) c.into_concat.ensures.second

pub returns-clause-relation : goal.returns-clause-relation
returns-clause-relation g c =
    IfOk-weaker c.into_concat.result _ _ (λ t relation read u v.
    let r = c.in_ok-reading.reading in
    let w = c.in_ok-writing.writing in
    let both =
    read_then_written (λ x. Accepts c.args.a.now (map read x)) (λ x. Accepts c.args.b.now (map read x)) (Relates read r) (Relates read w)
    (c.in_ok-reading.ensures.relation read) (c.in_ok-writing.ensures.relation read) u v in
    (λ related. both.0 ((relation read u v).0 related), λ words. (relation read u v).1 (both.1 words))) c.into_concat.ensures.relation
