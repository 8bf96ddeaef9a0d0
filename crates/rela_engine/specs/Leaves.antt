-- What a leaf has to say of an assertion, for the paths before and after a change.
use Rattle.std.specs.Prelude.{ℕ, List}
use Rattle.rela_build.specs.Lettering.{Lettering}
use Rattle.rela_build.specs.PathSets.{Paths}
use Rattle.rela_build.specs.Named.{Names}
use Rattle.rela_compare.specs.declared.verdict.Which.{Which}
use Rattle.rela_compare.specs.declared.verdict.Which.TheVariants as side
use Rattle.rela_rir.specs.Assertions.{FailsBy, HoldsOnPaths, MayBeLeftOpen, first_term, second_term}
use Rattle.rela_rir.specs.Limit.{Forced}
use Rattle.rela_rir.specs.Places.{Scene}
use Rattle.rela_rir.specs.declared.assertion.Assertion.{Assertion}
use Rattle.rela_rir.specs.declared.set.SymbolSet.{SymbolSet}
use Rattle.rela_rir.specs.declared.term.PathTerm.{PathTerm}
use Rattle.rela_rir.specs.declared.value.Value.{Value}
use Rattle.rela_rir.specs.declared.value.Value.TheVariants as value
use Rattle.rela_translate.specs.Zones.{path_symbols}
use Rattle.rela_engine.specs.declared.leaf.Leaf.{Leaf}
use Rattle.rela_engine.specs.declared.leaf.Leaf.TheVariants.{Holds, Fails, Undecided}

-- the letters of the automata of assertions, where these are the blocks of the path symbols; there are no markers
abbrev pub plain_lettering : List SymbolSet → ℕ → List ℕ → Lettering
plain_lettering classes locations blocks = record {
  classes = classes;
  path_symbols = path_symbols locations;
  markers = 0;
  blocks = blocks;
}

-- in what the terms of assertions are read: the class table, the path symbols alone, and the paths of a flow
abbrev pub plain_scene : List SymbolSet → ℕ → Paths → Scene
plain_scene classes locations paths = record {
  setting = record {
    classes = classes;
    path_symbols = path_symbols locations;
    pre = paths.pre;
    post = paths.post;
  };
  markers = 0;
  pre = paths.at_pre;
  post = paths.at_post;
}

-- each symbol that a term of the assertion names by itself has P
abbrev pub TermsName : (ℕ → Type 0) → Assertion → Type 0
TermsName P assertion = Names P (first_term assertion) × Names P (second_term assertion)

-- the term on this side of the assertion
abbrev pub term_on : Which → Assertion → PathTerm
term_on side.First assertion = first_term assertion
term_on side.Second assertion = second_term assertion

-- a leaf that holds says so of the assertion; one that fails has the first word that tells against it, and the side
-- that has the word; and one that is undecided may be left open under the limit
abbrev pub LeafOf : Scene → Assertion → ℕ → Leaf → Type 0
LeafOf m assertion limit Holds = HoldsOnPaths m.setting assertion
LeafOf m assertion limit (Fails word side) =
    FailsBy m.setting assertion (term_on side assertion) word
LeafOf m assertion limit Undecided = MayBeLeftOpen m assertion limit

-- the assertion has to be left open under the limit: a complement in one of its terms has a part that tells more words
abbrev pub MustBeLeftOpen : Scene → Assertion → ℕ → Type 0
MustBeLeftOpen m assertion limit =
    Forced m (first_term assertion) (second_term assertion) limit

-- what is known by a leaf
abbrev pub value_of : Leaf → Value
value_of Holds = value.Holds
value_of (Fails word side) = value.Fails
value_of Undecided = value.Undecided
