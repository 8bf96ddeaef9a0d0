-- How large the terms of a body are, by its shape.
use Rattle.std.specs.Prelude.{ℕ, ◌+◌, max}
use Rattle.rela_rir.specs.Size.{nodes_of_path, nodes_of_rel, depth_of_path, depth_of_rel}
use Rattle.rela_rir.specs.declared.term.PathTerm.{PathTerm}
use Rattle.rela_rir.specs.declared.term.RelTerm.{RelTerm}
use Rattle.rela_spec.specs.declared.tree.Modifier.{Modifier}
use Rattle.rela_spec.specs.declared.tree.Modifier.TheVariants as m
use Rattle.rela_translate.specs.Terms.{Terms}
use Rattle.rela_expand.specs.Shapes.{Shape, BodyShape, Unit as Unit', Then, Else, nodes_of_shape, depth_of_shape}

-- the nodes and the depth of a term
pub record Measure : Type 0 where
  pub nodes : ℕ
  pub depth : ℕ

abbrev pub leaf : Measure
leaf = record { nodes = 1; depth = 1 }

-- a term with one part, or with two
abbrev pub over : Measure → Measure
over a = record { nodes = a.nodes + 1; depth = a.depth + 1 }

abbrev pub over_two : Measure → Measure → Measure
over_two a b = record { nodes = a.nodes + b.nodes + 1; depth = max a.depth b.depth + 1 }

abbrev pub measure_of : Shape → Measure
measure_of shape = record { nodes = nodes_of_shape shape; depth = depth_of_shape shape }

-- of the terms of a zone and of its two relations
pub record Measures : Type 0 where
  pub zone : Measure
  pub before : Measure
  pub after : Measure

-- the words of the first term that are not in the second
abbrev pub over_without : Measure → Measure → Measure
over_without a b = over_two a (over b)

abbrev pub modifier_measures : Modifier Shape → Modifier Measure
modifier_measures m.Preserve = m.Preserve
modifier_measures (m.Add p) = m.Add (measure_of p)
modifier_measures (m.Remove p) = m.Remove (measure_of p)
modifier_measures (m.Replace p q) = m.Replace (measure_of p) (measure_of q)
modifier_measures m.Drop = m.Drop
modifier_measures (m.AnyOf p) = m.AnyOf (measure_of p)
modifier_measures (m.Ignore p) = m.Ignore (measure_of p)

abbrev pub unit_measures : Measure → Modifier Measure → Measures
unit_measures z m.Preserve = record { zone = z; before = over z; after = over z }
unit_measures z (m.Add p) = record {
  zone = over_two z p;
  before = over_two (over (over_two z p)) (over_two z p);
  after = over (over_two z p);
}
unit_measures z (m.Remove p) = record { zone = z; before = over (over_without z p); after = over z }
unit_measures z (m.Replace p q) = record {
  zone = over_two z q;
  before = over_two (over (over_without (over_two z q) (over_two p z))) (over_two (over_two p z) q);
  after = over (over_two z q);
}
unit_measures z m.Drop = record {
  zone = over_two z leaf;
  before = over_two (over_two z leaf) leaf;
  after = over (over_two z leaf);
}
unit_measures z (m.AnyOf p) = record {
  zone = over_two z p;
  before = over_two (over_two z p) leaf;
  after = over_two (over_two p leaf) (over (over_without z p));
}
unit_measures z (m.Ignore p) = record {
  zone = z;
  before = over (over_without z p);
  after = over (over_without z p);
}

-- what is asked for outside a zone
abbrev pub over_outside : Measure → Measure → Measure
over_outside zone a = over_two (over (over zone)) a

abbrev pub body_measures : BodyShape → Measures
body_measures (Unit' z c) = unit_measures (measure_of z) (modifier_measures c)
body_measures (Then a b) = record {
  zone = over_two (body_measures a).zone (body_measures b).zone;
  before = over_two (body_measures a).before (body_measures b).before;
  after = over_two (body_measures a).after (body_measures b).after;
}
body_measures (Else a b) = record {
  zone = over_two (body_measures a).zone (body_measures b).zone;
  before = over_two (body_measures a).before (over_outside (body_measures a).zone
      (body_measures b).before);
  after = over_two (body_measures a).after (over_outside (body_measures a).zone
      (body_measures b).after);
}

-- what a term measures
abbrev pub of_path : PathTerm → Measure
of_path x = record { nodes = nodes_of_path x; depth = depth_of_path x }

abbrev pub of_rel : RelTerm → Measure
of_rel r = record { nodes = nodes_of_rel r; depth = depth_of_rel r }

abbrev pub of_terms : Terms → Measures
of_terms t = record { zone = of_path t.zone; before = of_rel t.before; after = of_rel t.after }

-- how many nodes of paths a body has, and markers with them
abbrev pub weight_of_modifier : Modifier Shape → ℕ
weight_of_modifier m.Preserve = 0
weight_of_modifier (m.Add p) = nodes_of_shape p
weight_of_modifier (m.Remove p) = nodes_of_shape p
weight_of_modifier (m.Replace p q) = nodes_of_shape p + nodes_of_shape q
weight_of_modifier m.Drop = 0
weight_of_modifier (m.AnyOf p) = nodes_of_shape p + 1
weight_of_modifier (m.Ignore p) = nodes_of_shape p

abbrev pub weight_of : BodyShape → ℕ
weight_of (Unit' z c) = nodes_of_shape z + weight_of_modifier c
weight_of (Then a b) = weight_of a + weight_of b
weight_of (Else a b) = weight_of a + weight_of b
