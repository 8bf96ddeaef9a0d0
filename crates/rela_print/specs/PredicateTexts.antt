-- How predicates are written.
use Rattle.std.specs.Prelude.{ℕ, Bool, true, false, if◌then◌else◌, List, [], ◌++◌, codes}
use Rattle.rela_flows.specs.Notation.{text_of}
use Rattle.rela_flows.specs.declared.predicate.Predicate.{Predicate}
use Rattle.rela_flows.specs.declared.predicate.Predicate.TheOpen.{Predicate-F, All, DstIn, DstOverlaps, SrcIn, SrcOverlaps, Flow, Class, Not, And, Or}
use Rattle.rela_flows.specs.declared.predicate.Predicate.TheFolds.{fold-Predicate}
use Rattle.rela_print.specs.Joined.{joined}
use Rattle.rela_print.specs.Names.{name_text}
use Rattle.rela_print.specs.Printed.{Printed, within}

abbrev pub test : List ℕ → Printed
test text = record { binding = 4; text = text }

-- one layer of a predicate, with each part printed
abbrev pub predicate_layer : Predicate-F Printed → Printed
predicate_layer All = test (codes "all")
predicate_layer (DstIn q) = test (codes "dst in " ++ text_of q)
predicate_layer (DstOverlaps q) = test (codes "dst overlaps " ++ text_of q)
predicate_layer (SrcIn q) = test (codes "src in " ++ text_of q)
predicate_layer (SrcOverlaps q) = test (codes "src overlaps " ++ text_of q)
predicate_layer (Flow name) = test (codes "flow " ++ name_text name)
predicate_layer (Class name) = test (codes "class " ++ name_text name)
predicate_layer (Not part) = record { binding = 3; text = codes "not " ++ within 3 part }
predicate_layer (And parts) = record { binding = 2; text = joined (codes " and ") (within 2) parts }
predicate_layer (Or parts) = record { binding = 1; text = joined (codes " or ") (within 1) parts }

unfoldable pub printed_predicate : Predicate → Printed
printed_predicate = fold-Predicate Printed predicate_layer

abbrev pub all_layer : Predicate-F Bool → Bool
all_layer All = true
all_layer _ = false

-- the predicate that selects every flow
unfoldable pub is_all : Predicate → Bool
is_all = fold-Predicate Bool all_layer

-- what a check says of its flows
unfoldable pub condition_text : Predicate → List ℕ
condition_text p = if is_all p then [] else codes " for " ++ (printed_predicate p).text
