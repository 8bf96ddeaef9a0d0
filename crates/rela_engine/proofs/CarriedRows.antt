-- A row of one flow is right for each flow whose paths have the same words and the same arrivals.
use Rattle.std.proofs.Common.{ℕ, ◌↔◌, Bool, true, false, List, refl, inl, inr}
use Rattle.std.specs.Prelude.{Option, Some, None}
use Rattle.rela_build.specs.PathSets.{Paths}
use Rattle.rela_names.specs.Shortlex.{First}
use Rattle.rela_report.specs.declared.rows.Row.{Row}
use Rattle.rela_report.specs.declared.rows.Row.TheVariants.{Compliant, Violated, Undecided}
use Rattle.rela_report.specs.declared.rows.Side.{Side}
use Rattle.rela_report.specs.declared.rows.Side.TheVariants as side
use Rattle.rela_rir.specs.Agreement.{AgreeOn, SameWords, SamePaths, SameSymbols}
use Rattle.rela_rir.specs.Limit.{Licensed}
use Rattle.rela_rir.specs.Words.{WordSet, Relation, ImageOf}
use Rattle.rela_rir.specs.declared.term.PathTerm.{PathTerm}
use Rattle.rela_translate.specs.Checked.{Checked}
use Rattle.rela_translate.specs.Verdict.{AreMet, Offends, Meets, Offending}
use Rattle.rela_engine.specs.RowOf.{RowOf, Says, IsOffence, IsLast, MustBeOpen, words_of, relation_of}
use Rattle.rela_blocks.specs.Scenes.{scene, before_image, after_image}
use Rattle.rela_engine.specs.Scenes.{SamePathSets}

turned : (X Y : WordSet) → SameWords X Y → SameWords Y X
turned X Y same w = ((same w).1, (same w).0)

-- ---- words

image_words : (X Y : WordSet) (R : Relation) → SameWords X Y → SameWords (ImageOf X R) (ImageOf Y R)
image_words X Y R same v = (
  λ i. record { source = i.source; in_set = (same i.source).0 i.in_set; related = i.related },
  λ i. record { source = i.source; in_set = (same i.source).1 i.in_set; related = i.related },
)

met : (at_most : Bool) (X X' Y Y' : WordSet) → SameWords X X' → SameWords Y Y' → AreMet at_most X Y → AreMet at_most X' Y'
met false X X' Y Y' x y are = λ w. (λ h. (y w).0 ((are w).0 ((x w).1 h)), λ h. (x w).0 ((are w).1 ((y w).1 h)))
met true X X' Y Y' x y are = λ w h. (x w).0 (are w ((y w).1 h))

offends : (at_most : Bool) (X X' Y Y' : WordSet) → SameWords X X' → SameWords Y Y' → (w : List ℕ) → Offends at_most X Y w → Offends at_most X' Y' w
offends false X X' Y Y' x y w o = elim o [
  | inl one ↦ inl ((x w).0 one.0, λ h. one.1 ((y w).1 h))
  | inr one ↦ inr ((λ h. one.0 ((x w).1 h)), (y w).0 one.1)
]
offends true X X' Y Y' x y w o = ((y w).0 o.0, λ h. o.1 ((x w).1 h))

first : (X Y : WordSet) → SameWords X Y → (w : List ℕ) → First X w → First Y w
first X Y same w is = record { member = (same w).0 is.member; least = λ u in_y. is.least u ((same u).1 in_y) }

module _ (check : Checked) (n limit : ℕ) (p q : Paths) (same : SamePathSets p q) where
  pub back : SamePathSets q p
  back = record {
    pre = turned p.pre q.pre same.pre;
    post = turned p.post q.post same.post;
    pre_places = record { at_node = λ k. turned (p.at_pre.at_node k) (q.at_pre.at_node k) (same.pre_places.at_node k); at_end = turned p.at_pre.at_end q.at_pre.at_end same.pre_places.at_end };
    post_places = record { at_node = λ k. turned (p.at_post.at_node k) (q.at_post.at_node k) (same.post_places.at_node k); at_end = turned p.at_post.at_end q.at_post.at_end same.post_places.at_end };
  }

  one_scene : SameSymbols (scene check n p) (scene check n q)
  one_scene = record { setting = record { classes = refl; path_symbols = refl }; markers = refl }

  one_paths : SamePaths (scene check n p) (scene check n q)
  one_paths = record { pre = same.pre; post = same.post; pre_places = same.pre_places; post_places = same.post_places }

  images : (of : Side) → SameWords (ImageOf (words_of of p.pre p.post) (relation_of of check n)) (ImageOf (words_of of q.pre q.post) (relation_of of check n))
  images side.Before = image_words p.pre q.pre (relation_of side.Before check n) same.pre
  images side.After = image_words p.post q.post (relation_of side.After check n) same.post

  pub carried_met : Meets check n p.pre p.post → Meets check n q.pre q.post
  carried_met = met check.at_most (ImageOf p.pre (relation_of side.Before check n)) (ImageOf q.pre (relation_of side.Before check n))
      (ImageOf p.post (relation_of side.After check n)) (ImageOf q.post (relation_of side.After check n)) (images side.Before) (images side.After)

  pub carried_offending : (w : List ℕ) → Offending check n p.pre p.post w → Offending check n q.pre q.post w
  carried_offending = offends check.at_most (ImageOf p.pre (relation_of side.Before check n)) (ImageOf q.pre (relation_of side.Before check n))
      (ImageOf p.post (relation_of side.After check n)) (ImageOf q.post (relation_of side.After check n)) (images side.Before) (images side.After)

  words_alike : (of : Side) → SameWords (words_of of p.pre p.post) (words_of of q.pre q.post)
  words_alike side.Before = same.pre
  words_alike side.After = same.post

  -- the two scenes agree on all that a term names
  pub agree : (x : PathTerm) → AgreeOn (scene check n p) (scene check n q) x
  agree x = record { symbols = one_scene; paths = inr one_paths }

-- ---- rows

module _ (check : Checked) (n limit : ℕ) (p q : Paths) (same : SamePathSets p q)
    (licensed : (last : Option (List ℕ)) → Licensed (scene check n p) last (before_image check n) (after_image check n) limit
    ↔ Licensed (scene check n q) last (before_image check n) (after_image check n) limit)
    (forced : MustBeOpen check n p limit ↔ MustBeOpen check n q limit) where
  offending : SameWords (Offending check n p.pre p.post) (Offending check n q.pre q.post)
  offending w = (carried_offending check n limit p q same w, carried_offending check n limit q p (back check n limit p q same) w)

  last_word : (last : Option (List ℕ)) → IsLast check n q last → IsLast check n p last
  last_word None meets = carried_met check n limit q p (back check n limit p q same) meets
  last_word (Some w) is =
      first (Offending check n q.pre q.post) (Offending check n p.pre p.post) (turned (Offending check n p.pre p.post) (Offending check n q.pre q.post) offending) w is

  offence : (word : List ℕ) (of : Side) (source : List ℕ) → IsOffence check n p.pre p.post word of source → IsOffence check n q.pre q.post word of source
  offence word of source is = record {
    first = first (Offending check n p.pre p.post) (Offending check n q.pre q.post) offending word is.first;
    in_image = (images check n limit p q same of word).0 is.in_image;
    first_source =
        first (λ path. words_of of p.pre p.post path × relation_of of check n path word) (λ path. words_of of q.pre q.post path × relation_of of check n path word)
        (λ path. (
          λ h. ((words_alike check n limit p q same of path).0 h.0, h.1),
          λ h. ((words_alike check n limit p q same of path).1 h.0, h.1),
        )) source is.first_source;
  }

  says : (row : Row) → Says check n p limit row → Says check n q limit row
  says Compliant meets = carried_met check n limit p q same meets
  says (Violated word of source) is = offence word of source is
  says Undecided may = λ last is. (licensed last).0 (may last (last_word last is))

  pub carried : (row : Row) → RowOf check n p limit row → RowOf check n q limit row
  carried row is = record { says = says row is.says; forced = λ must. is.forced (forced.1 must) }
