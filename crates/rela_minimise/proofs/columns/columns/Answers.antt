use Rattle.std.proofs.Common.{◌∙◌, ap}
use Rattle.std.proofs.lemmas.List.{map_push}
use Rattle.rela_minimise.specs.Stored.{lists_of}
use Rattle.rela_minimise.proofs.Fewer.{fewer_left}
use Rattle.rela_minimise.proofs.LeadingAlike.{columns_more, columns_none}
use Rattle.rela_minimise.proofs.columns.columns.Goals as goal

pub loop-letter-init : goal.loop-letter-init
loop-letter-init g c =
    columns_none c.args.dfa.now (g.L.LabelSet.letters c.in_ok-rest.rest) (lists_of c.new-columns.result.items) (c.in_ok-rest.ensures.same ∙ c.over.ensures) (ap lists_of c.new-columns.ensures.items)

pub loop-letter-smaller : goal.loop-letter-smaller
loop-letter-smaller g c =
    fewer_left (g.L.LabelSet.letters c.loop-letter.rest) (g.L.LabelSet.letters c.in_ok-kind.kind.letters) (g.L.LabelSet.letters c.in_ok-rest-2.rest) c.in-Some.letter
    c.in_ok-rest-2.ensures.size c.in_ok-rest-2.ensures.first_only c.in-Some.ensures.member (c.in_ok-kind.ensures.itself c.in-Some.ensures.member)

pub loop-letter-preserved : goal.loop-letter-preserved
loop-letter-preserved g c =
    columns_more c.args.dfa.now (g.L.LabelSet.letters c.loop-letter.rest) (g.L.LabelSet.letters c.in_ok-kind.kind.letters) (g.L.LabelSet.letters c.in_ok-rest-2.rest)
    (lists_of c.loop-letter.columns.items) (lists_of c.push.new.self.items) c.in-Some.letter c.in_ok-kind.kind.column.items c.loop-letter.invariant c.in-Some.ensures.member c.in_ok-kind.ensures.column
    (ap lists_of c.in_ok-push.ensures.items ∙ map_push (λ v. v.items) c.loop-letter.columns.items c.in_ok-kind.kind.column) c.in_ok-kind.ensures.alike
    c.in_ok-rest-2.ensures.size c.in_ok-rest-2.ensures.first_only
