-- The symbols that a term names one by one, and not by a class, from left to right.
use Rattle.std.specs.Prelude.{ℕ, List, [], ◌∷◌, ◌++◌}
use Rattle.rela_rir.specs.Assertions.{first_term, second_term}
use Rattle.rela_rir.specs.declared.assertion.Assertion.{Assertion}
use Rattle.rela_rir.specs.declared.term.PathTerm.{PathTerm}
use Rattle.rela_rir.specs.declared.term.RelTerm.{RelTerm}
use Rattle.rela_rir.specs.declared.term.PathTerm.TheOpen.{PathTerm-F, One, PathTerm::Union, PathTerm::Concat, PathTerm::Star, Meet, Complement, Image, RelTerm-F, Identity, Product, RelTerm::Union, RelTerm::Concat, RelTerm::Star, Compose}
use Rattle.rela_rir.specs.declared.term.PathTerm.TheFolds.{fold-PathTerm, fold-RelTerm}

abbrev pub layer_symbols : PathTerm-F (List ℕ) (List ℕ) → List ℕ
layer_symbols (One s) = s ∷ []
layer_symbols (PathTerm::Union a b) = a ++ b
layer_symbols (PathTerm::Concat a b) = a ++ b
layer_symbols (PathTerm::Star a) = a
layer_symbols (Meet a b) = a ++ b
layer_symbols (Complement a) = a
layer_symbols (Image a b) = a ++ b
layer_symbols _ = []

abbrev pub layer_symbols_rel : RelTerm-F (List ℕ) (List ℕ) → List ℕ
layer_symbols_rel (Identity a) = a
layer_symbols_rel (Product a b) = a ++ b
layer_symbols_rel (RelTerm::Union a b) = a ++ b
layer_symbols_rel (RelTerm::Concat a b) = a ++ b
layer_symbols_rel (RelTerm::Star a) = a
layer_symbols_rel (Compose a b) = a ++ b

-- those of a path term
abbrev pub symbols_in : PathTerm → List ℕ
symbols_in = fold-PathTerm (List ℕ) (List ℕ) layer_symbols layer_symbols_rel

-- those of a relation term
abbrev pub symbols_in_rel : RelTerm → List ℕ
symbols_in_rel = fold-RelTerm (List ℕ) (List ℕ) layer_symbols layer_symbols_rel

-- those of both terms of an assertion
abbrev pub symbols_of_terms : Assertion → List ℕ
symbols_of_terms assertion = symbols_in (first_term assertion) ++ symbols_in (second_term assertion)
