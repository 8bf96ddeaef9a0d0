-- Numbering keeps the words of a shape, under each class table that goes on from what is numbered after it.
use Rattle.std.proofs.Common.{◌≡◌, ℕ, Bool, true, List, [], ◌∷◌, map, Option, None, Some, refl, ap, sym, subst, ◌∙◌}
use Rattle.std.specs.Prelude.{MatchBool, slice_get}
use Rattle.std.specs.Bool.{beq}
use Rattle.std.specs.Cmp.{booleans_Decides}
use Rattle.std.specs.List.{Contains, list_any, position_or_len}
use Rattle.std.specs.Str.{bytes_eq}
use Rattle.std.specs.Option.{option_map}
use Rattle.std.proofs.lemmas.Option.{slice_get-map}
use Rattle.std.proofs.lemmas.Slice.Eq.{bytes_eq-Decides}
use Rattle.rela_rir.specs.Words.{WordSet}
use Rattle.rela_rir.specs.Meaning.{IsPathWord}
use Rattle.rela_rir.specs.declared.set.SymbolSet.{SymbolSet}
use Rattle.rela_expand.specs.Expand.{listing_of}
use Rattle.rela_translate.specs.Lang.{IsMember, Lang, LayerLang}
use Rattle.rela_expand.specs.Numbering.{Listing, Numbering, same_listing}
use Rattle.rela_expand.specs.Numbered.{listing, placed, numbered}
use Rattle.rela_expand.specs.Places.{Place, path_symbols_at}
use Rattle.rela_expand.specs.Shapes.{Shape, Empty, Class, Seq, Alt, Meet, Not, Star}
use Rattle.rela_translate.specs.declared.body.Expr.{Expr}
use Rattle.rela_translate.specs.declared.body.Expr.TheOpen as E
use Rattle.rela_translate.specs.declared.body.Expr.TheVariants as x
use Rattle.rela_expand.proofs.Letters.{HasLetter}
use Rattle.rela_expand.proofs.ListWords as words
use Rattle.rela_expand.proofs.ListWords.{Equal, told, itself}
use Rattle.rela_expand.proofs.Layers.{lang_roll}
use Rattle.rela_expand.proofs.Membership.{and_left, and_right, first_at}
use Rattle.rela_expand.proofs.Numberings.{Grown, grown_twice, numbered_grows, table_has, place_stays}
use Rattle.rela_expand.proofs.ShapeWords.{WordsOf}

same_class : (c d : Listing) → same_listing c d ≡ true → c ≡ d
same_class c d h =
    let flags : c.negated ≡ d.negated = (booleans_Decides c.negated d.negated).0 (and_left (beq c.negated d.negated) (bytes_eq c.members d.members) h) in
    let lists : c.members ≡ d.members = (bytes_eq-Decides c.members d.members).0 (and_right (beq c.negated d.negated) (bytes_eq c.members d.members) h) in
    λ i. record { negated = flags i; members = lists i }

listed_by : (o : Option SymbolSet) (d : Listing) → option_map listing_of o ≡ Some d → (set : SymbolSet) × (o ≡ Some set) × (listing_of set ≡ d)
listed_by None d is = absurd (cc)
listed_by (Some set) d is = (set, refl, inside is)
  where
    inside : option_map listing_of (Some set) ≡ Some d → listing_of set ≡ d
    inside is = cc

module _ (classes : List SymbolSet) (m : Numbering) (table : map listing_of classes ≡ m.classes) where
  -- the class stands in the table at its number
  at_number : (c : Listing) (n : Numbering) → Grown (placed c n).after m
      → (set : SymbolSet) × (slice_get classes (position_or_len (same_listing c) n.classes) ≡ Some set) × (listing_of set ≡ c)
  at_number c n g =
      let has : list_any (same_listing c) m.classes ≡ true = ap (λ (cs : List Listing). list_any (same_listing c) cs) g.is ∙ table_has n.classes c g.more in
      let same : position_or_len (same_listing c) m.classes ≡ position_or_len (same_listing c) n.classes =
      ap (λ (cs : List Listing). position_or_len (same_listing c) cs) g.is ∙ place_stays n.classes c g.more in
      let d = first_at (same_listing c) m.classes has in
      let at : slice_get m.classes (position_or_len (same_listing c) n.classes) ≡ Some d.0 =
      ap (λ (k : ℕ). slice_get m.classes k) (sym same) ∙ d.1 in
      let set = listed_by (slice_get classes (position_or_len (same_listing c) n.classes)) d.0
      (sym (slice_get-map listing_of classes (position_or_len (same_listing c) n.classes))
      ∙ ap (λ (cs : List Listing). slice_get cs (position_or_len (same_listing c) n.classes)) table ∙ at) in
      (set.0, set.1, set.2 ∙ sym (same_class c d.0 d.2))

one_set : (classes : List SymbolSet) (k : ℕ) (set other : SymbolSet) → slice_get classes k ≡ Some set → slice_get classes k ≡ Some other → other ≡ set
one_set classes k set other is is' = cc

class_words : (place : Place) (classes : List SymbolSet) (k : ℕ) (negated : Bool) (symbols : List ℕ) (set : SymbolSet)
    → slice_get classes k ≡ Some set → listing_of set ≡ record { negated = negated; members = symbols }
    → Equal (λ w. (s : ℕ) × (w ≡ s ∷ []) × IsMember classes (path_symbols_at place) k s) (HasLetter place negated symbols)
class_words place classes k negated symbols set at is = (
  λ w h.
      let same : listing_of h.2.0 ≡ record { negated = negated; members = symbols } = ap listing_of (one_set classes k set h.2.0 at h.2.1) ∙ is in
      record {
        symbol = h.0;
        only = h.1;
        path = h.2.2.path;
        chosen = subst (λ (l : Listing). MatchBool l.negated (¬ Contains l.members h.0) (Contains l.members h.0)) same h.2.2.chosen;
      },
  λ w h. (
    h.symbol,
    h.only,
    (
      set,
      at,
      record {
        path = h.path;
        chosen = subst (λ (l : Listing). MatchBool l.negated (¬ Contains l.members h.symbol) (Contains l.members h.symbol)) (sym is) h.chosen;
      },
    ),
  ),
)

module _ (place : Place) (classes : List SymbolSet) (m : Numbering) (table : map listing_of classes ≡ m.classes) where
  abbrev lang : Expr → WordSet
  lang e = Lang classes (path_symbols_at place) e

  abbrev of : Shape → WordSet
  of = WordsOf place

  rolled : (v : Expr) (y : E.Expr-F Expr) → lang v ≡ LayerLang classes (path_symbols_at place) lang y → (X : WordSet) → Equal (LayerLang classes (path_symbols_at place) lang y) X → Equal (lang v) X
  rolled v y is X same = told (lang v) (LayerLang classes (path_symbols_at place) lang y) X is same

  abbrev Numbers : Shape → Type 0
  Numbers s = (n : Numbering) → Grown (numbered place s n).after m → Equal (lang (numbered place s n).value) (of s)

  first_part : (a b : Shape) (n : Numbering) → Grown (numbered place b (numbered place a n).after).after m → Grown (numbered place a n).after m
  first_part a b n g = grown_twice (numbered_grows place b (numbered place a n).after) g

  pub numbered_words : (s : Shape) (n : Numbering) → Grown (numbered place s n).after m → Equal (Lang classes (path_symbols_at place) (numbered place s n).value) (WordsOf place s)
  numbered_words Empty n g =
      rolled x.Empty E.Empty (ap lang (sym x.rolls-Empty) ∙ lang_roll classes (path_symbols_at place) E.Empty) (of Empty) (itself (λ w. w ≡ []))
  numbered_words (Class negated members) n g =
      let c : Listing = listing place negated members in
      let k = position_or_len (same_listing c) n.classes in
      let set = at_number classes m table c n (record { more = g.more; is = g.is }) in
      rolled (x.Class k) (E.Class k) (ap lang (sym (x.rolls-Class k)) ∙ lang_roll classes (path_symbols_at place) (E.Class k)) (of (Class negated members))
      (class_words place classes k negated c.members set.0 set.1 set.2)
  numbered_words (Seq a b) n g =
      let v = (numbered place a n).value in
      let w = (numbered place b (numbered place a n).after).value in
      rolled (x.Seq v w) (E.Seq v w) (ap lang (sym (x.rolls-Seq v w)) ∙ lang_roll classes (path_symbols_at place) (E.Seq v w)) (of (Seq a b))
      (words.joined (lang v) (of a) (lang w) (of b) (numbered_words a n (first_part a b n g)) (numbered_words b (numbered place a n).after g))
  numbered_words (Alt a b) n g =
      let v = (numbered place a n).value in
      let w = (numbered place b (numbered place a n).after).value in
      rolled (x.Alt v w) (E.Alt v w) (ap lang (sym (x.rolls-Alt v w)) ∙ lang_roll classes (path_symbols_at place) (E.Alt v w)) (of (Alt a b))
      (words.either (lang v) (of a) (lang w) (of b) (numbered_words a n (first_part a b n g)) (numbered_words b (numbered place a n).after g))
  numbered_words (Meet a b) n g =
      let v = (numbered place a n).value in
      let w = (numbered place b (numbered place a n).after).value in
      rolled (x.Meet v w) (E.Meet v w) (ap lang (sym (x.rolls-Meet v w)) ∙ lang_roll classes (path_symbols_at place) (E.Meet v w)) (of (Meet a b))
      (words.both (lang v) (of a) (lang w) (of b) (numbered_words a n (first_part a b n g)) (numbered_words b (numbered place a n).after g))
  numbered_words (Not a) n g =
      let v = (numbered place a n).value in
      rolled (x.Not v) (E.Not v) (ap lang (sym (x.rolls-Not v)) ∙ lang_roll classes (path_symbols_at place) (E.Not v)) (of (Not a))
      (words.others (IsPathWord (path_symbols_at place)) (lang v) (of a) (numbered_words a n g))
  numbered_words (Star a) n g =
      let v = (numbered place a n).value in
      rolled (x.Star v) (E.Star v) (ap lang (sym (x.rolls-Star v)) ∙ lang_roll classes (path_symbols_at place) (E.Star v)) (of (Star a))
      (words.starred (lang v) (of a) (numbered_words a n g))
