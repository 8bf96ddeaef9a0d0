-- What the fields of an automaton with numbered labels stand for.
use Rattle.std.specs.Prelude.{List, map}
use Rattle.std.specs.declared.vec.Vec.{Vec}
use Rattle.rela_reduce.specs.Numbered.{Plain}
use Rattle.rela_reduce.specs.declared.numbered.Numbered.{Numbered}

-- the items of each
abbrev pub lists_of : {X A : Type 0} → List (Vec X A) → List (List X)
lists_of lists = map (λ list. list.items) lists

abbrev pub plain : Numbered → Plain
plain n = record {
  labels = n.labels;
  start = n.start;
  finals = n.finals.items;
  arrows = lists_of n.arrows.items;
}
