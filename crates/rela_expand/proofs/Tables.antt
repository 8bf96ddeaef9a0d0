-- A class table, one set after another.
use Rattle.std.proofs.Common.{◌≡◌, List, [], ◌∷◌, ◌++◌, map, refl, ap, ◌∙◌, append_assoc}
use Rattle.rela_rir.specs.declared.set.SymbolSet.{SymbolSet}
use Rattle.rela_expand.specs.Expand.{listing_of}
use Rattle.rela_expand.specs.Numbering.{Listing}
use Rattle.rela_expand.specs.Tables.{entry_of}
use Rattle.rela_expand.specs.declared.entry.Entry.{Entry}

map_last : {A B : Type 0} (f : A → B) (xs : List A) (x : A) → map f (xs ++ x ∷ []) ≡ map f xs ++ f x ∷ []
map_last f [] x = refl
map_last f (y ∷ xs) x = ap (λ (zs : List _). f y ∷ zs) (map_last f xs x)

pub one_set_more : (sets : List SymbolSet) (set : SymbolSet) (entry : Entry) (rest : List Entry) (all : List Listing) → listing_of set ≡ entry_of entry
    → map listing_of sets ++ map entry_of (entry ∷ rest) ≡ all → map listing_of (sets ++ set ∷ []) ++ map entry_of rest ≡ all
one_set_more sets set entry rest all is whole =
    ap (λ (ls : List Listing). ls ++ map entry_of rest) (map_last listing_of sets set)
    ∙ append_assoc (map listing_of sets) (listing_of set ∷ []) (map entry_of rest)
    ∙ ap (λ (l : Listing). map listing_of sets ++ l ∷ map entry_of rest) is
    ∙ whole
