-- The line that a refused input gets: `refused`, the place, the number and name of the refusal, and its detail.
use Rattle.std.specs.Prelude.{ℕ, List, [], ◌++◌, codes}
use Rattle.std.specs.Fmt.{decimal}
use Rattle.rela_json.specs.declared.error.LoadError.{LoadError}
use Rattle.rela_json.specs.declared.error.LoadError.TheVariants as load
use Rattle.rela_fib.specs.declared.error.FibError.{FibError}
use Rattle.rela_fib.specs.declared.error.FibError.TheVariants as fib
use Rattle.rela_lex.specs.declared.error.SpecError.{SpecError}
use Rattle.rela_lex.specs.declared.error.SpecError.TheVariants as spec
use Rattle.rela_flows.specs.Notation.{text_of}
use Rattle.rela_flows.specs.declared.predicate.FlowClass.{FlowClass}
use Rattle.rela_report.specs.Text.{line}
use Rattle.rela_inputs.specs.declared.refusal.Input.{Input}
use Rattle.rela_inputs.specs.declared.refusal.Input.TheVariants.{Locations, Before, After, Pair, Spec, Tables, Other, Assertions, Certificate, Words}
use Rattle.rela_inputs.specs.declared.refusal.Reason.{Reason}
use Rattle.rela_inputs.specs.declared.refusal.Reason.TheVariants.{TooLong, Load, FlowDiffers, Specification, Snapshot, UnknownCheck}
use Rattle.rela_inputs.specs.declared.refusal.Refusal.{Refusal}

abbrev pub input_text : Input → List ℕ
input_text Locations = codes "locations"
input_text Before = codes "before"
input_text After = codes "after"
input_text Pair = codes "pair"
input_text Spec = codes "spec"
input_text Tables = codes "tables"
input_text Other = codes "other"
input_text Assertions = codes "assertions"
input_text Certificate = codes "certificate"
input_text Words = codes "words"

-- a refusal with the row that it stands in
unfoldable pub in_row : List ℕ → ℕ → List ℕ
in_row refusal row = refusal ++ (codes " row " ++ decimal row)

-- a shape refused by this rule
unfoldable pub by_rule : ℕ → List ℕ
by_rule rule = codes "12 WrongShape rule " ++ decimal rule

-- what a decoder refused; want of memory is no refusal
abbrev pub load_text : LoadError → List ℕ
load_text load.NotJson = codes "11 NotJson"
load_text (load.WrongShape rule row) = in_row (by_rule rule) row
load_text load.BadVersion = codes "13 BadVersion"
load_text (load.BadName row) = in_row (codes "14 BadName") row
load_text (load.ReservedName row) = in_row (codes "15 ReservedName") row
load_text (load.RepeatedEntry row) = in_row (codes "16 RepeatedEntry") row
load_text (load.UnknownLocation row) = in_row (codes "17 UnknownLocation") row
load_text (load.BadIndex row) = in_row (codes "18 BadIndex") row
load_text (load.BadPrefix row) = in_row (codes "19 BadPrefix") row
load_text (load.TooMany row) = in_row (codes "20 TooMany") row
load_text (load.UnknownNode row) = in_row (codes "22 UnknownNode") row
load_text load.Memory = []

-- a refusal with the offset in the text that it stands at
unfoldable pub at_offset : List ℕ → ℕ → List ℕ
at_offset refusal at = refusal ++ (codes " at " ++ decimal at)

-- what is refused of a specification; want of memory is no refusal
abbrev pub spec_text : SpecError → List ℕ
spec_text (spec.BadToken at) = at_offset (codes "31 BadToken") at
spec_text (spec.Syntax at) = at_offset (codes "32 Syntax") at
spec_text (spec.UnknownName at) = at_offset (codes "33 UnknownName") at
spec_text (spec.RepeatedName at) = at_offset (codes "34 RepeatedName") at
spec_text (spec.TooDeep at) = at_offset (codes "35 TooDeep") at
spec_text (spec.TooLarge at) = at_offset (codes "36 TooLarge") at
spec_text (spec.BadNumber at) = at_offset (codes "37 BadNumber") at
spec_text (spec.FinerLevel at) = at_offset (codes "38 FinerLevel") at
spec_text (spec.UnknownLocation at) = at_offset (codes "17 UnknownLocation") at
spec_text spec.Memory = []

-- destination, source and class
unfoldable pub class_text : FlowClass → List ℕ
class_text flow = codes " dst " ++ (text_of flow.dst
    ++ (codes " src " ++ (text_of flow.src ++ (codes " class " ++ flow.class))))

-- a flow of one name whose two snapshots tell different classes
unfoldable pub differs_text : FlowClass → FlowClass → List ℕ
differs_text before after = codes "21 FlowDiffers "
    ++ (before.name ++ (class_text before ++ class_text after))

-- why tables give no snapshot; want of memory is no refusal
abbrev pub fib_text : FibError → List ℕ
fib_text fib.TooMany = in_row (codes "20 TooMany") 0
fib_text fib.TooLong = codes "2 TooLong"
fib_text fib.Memory = []

-- the place, and what is said of it
unfoldable pub at_place : List ℕ → List ℕ → List ℕ
at_place place said = codes "refused " ++ (place ++ (codes " " ++ line said))

abbrev pub reason_text : Reason → List ℕ
reason_text TooLong = codes "2 TooLong"
reason_text (Load error) = load_text error
reason_text (FlowDiffers before after) = differs_text before after
reason_text (Specification error) = spec_text error
reason_text (Snapshot error) = fib_text error
reason_text UnknownCheck = codes "33 UnknownName"

abbrev pub refusal_line : Refusal → List ℕ
refusal_line refusal = at_place (input_text refusal.input) (reason_text refusal.reason)
