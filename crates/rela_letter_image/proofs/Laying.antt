-- How moves are laid out by what they read, one after another.
use Rattle.std.proofs.Common.{◌≡◌, ◌≢◌, ℕ, zero, suc, ◌+◌, ◌<◌, ◌≤◌, ◌↔◌, ◌⊎◌, ◌||◌, Bool, true, false, IsTrue, List, [], ◌∷◌, ◌++◌, length, get_or, map, take, refl, sym, ap, ◌∙◌, subst, inl, inr, arith}
use Rattle.std.specs.List.{All, Contains, flat_map}
use Rattle.std.proofs.lemmas.Bool.{cases_eq, cases_lt}
use Rattle.std.proofs.lemmas.List.{append-nil, ext_get_or, get_or_append_left, get_or_past, get_or_push, length-map, length_push, map-append, map_more, take_more}
use Rattle.std.proofs.lemmas.List.Concat.{flat_map-append}
use Rattle.std.proofs.lemmas.List.Elements.{All-contains, All-push, Contains-append_left, Contains-append_right, Contains-append_cases, Contains-get_or}
use Rattle.rela_labels.specs.Letters.{has}
use Rattle.rela_trans.specs.Machine.{Machine, IsMachine, IsMove, machine_states, moves_of}
use Rattle.rela_trans.specs.Runs.{Follow, Relates, Step}
use Rattle.rela_trans.specs.Stored.{kind_of, move_of}
use Rattle.rela_trans.specs.declared.moves.Move.{Move}
use Rattle.rela_trans.specs.declared.moves.MoveKind.{MoveKind}
use Rattle.rela_letter_image.specs.Branches.{led_to}
use Rattle.rela_letter_image.specs.LetterMoves.{Laid, none_laid, with_alone, with_letter, with_set, AreLaidOut, AreLettersOf, Gains, GainsAll, IsLaidOut, all_moves, alone_move, letter_move, set_move}
use Rattle.rela_letter_image.specs.declared.letter_moves.AloneMove.{AloneMove}
use Rattle.rela_letter_image.specs.declared.letter_moves.LetterMove.{LetterMove}
use Rattle.rela_letter_image.specs.declared.letter_moves.SetMove.{SetMove}
use Rattle.rela_letter_image.proofs.GrownSteps.{only_one}
use Rattle.rela_letter_image.proofs.StepsGo.{Contains-nil, first_in}

-- ---- a set that is copied letter by letter

-- the copy has the letters below n that the set has
pub record IsCopied (set : List Bool) (n : ℕ) (copy : List Bool) : Type 0 where
  pub size : length copy ≡ length set
  pub below : (k : ℕ) → k < n → has copy k ≡ has set k
  pub none : (k : ℕ) → n ≤ k → has copy k ≡ false

pub copied_none : (set copy : List Bool) → length copy ≡ length set → ((k : ℕ) → has copy k ≡ false) → IsCopied set 0 copy
copied_none set copy size empty = record { size = size; below = λ k less. absurd (omega (arith, less)); none = λ k past. empty k }

pub copied_more : (set : List Bool) (n : ℕ) (added : Bool) (copy next : List Bool) → added ≡ has set n → IsCopied set n copy → length next ≡ length copy → has next n ≡ (has copy n || added)
    → ((k : ℕ) → k ≢ n → has next k ≡ has copy k) → IsCopied set (n + 1) next
copied_more set n added copy next is so_far size here others = record {
  size = size ∙ so_far.size;
  below = λ k less. elim (cases_eq k n) [
    | inl same ↦ ap (has next) same ∙ here ∙ ap (λ b. b || added) (so_far.none n (omega arith)) ∙ is ∙ ap (has set) (sym same)
    | inr other ↦ others k other ∙ so_far.below k (omega (arith, less, other))
  ];
  none = λ k past. others k (λ same. absurd (omega (arith, past, same))) ∙ so_far.none k (omega (arith, past));
}

pub copied_all : (set copy : List Bool) (n : ℕ) → length set ≤ n → IsCopied set n copy → copy ≡ set
copied_all set copy n all copied = ext_get_or false copy set copied.size (λ k below. copied.below k (omega (arith, below, all, copied.size)))

-- ---- one more move

pub three_cases : (xs ys zs : List (Move (List Bool))) (m : Move (List Bool)) → Contains (xs ++ ys ++ zs) m → Contains xs m ⊎ (Contains ys m ⊎ Contains zs m)
three_cases xs ys zs m among = elim (Contains-append_cases (xs ++ ys) zs m among) [
  | inl left ↦ elim (Contains-append_cases xs ys m left) [ inl one ↦ inl one | inr two ↦ inr (inl two) ]
  | inr three ↦ inr (inr three)
]

module _ (xs ys zs : List (Move (List Bool))) (m : Move (List Bool)) where
  in_one : Contains xs m → Contains (xs ++ ys ++ zs) m
  in_one among = Contains-append_left (xs ++ ys) zs m (Contains-append_left xs ys m among)

  in_two : Contains ys m → Contains (xs ++ ys ++ zs) m
  in_two among = Contains-append_left (xs ++ ys) zs m (Contains-append_right xs ys m among)

  in_three : Contains zs m → Contains (xs ++ ys ++ zs) m
  in_three among = Contains-append_right (xs ++ ys) zs m among

  -- a move at the end of one of the lists
  abbrev More : List (Move (List Bool)) → Move (List Bool) → Type 0
  More all x = Contains all m ↔ (Contains (xs ++ ys ++ zs) m ⊎ (x ≡ m))

  more_one : (x : Move (List Bool)) → More ((xs ++ x ∷ []) ++ ys ++ zs) x
  more_one x = (
    λ among. elim (three_cases (xs ++ x ∷ []) ys zs m among) [
      | inl one ↦ elim (Contains-append_cases xs (x ∷ []) m one) [ inl old ↦ inl (in_one old) | inr new ↦ inr (only_one x m new) ]
      | inr others ↦ elim others [ inl two ↦ inl (in_two two) | inr three ↦ inl (in_three three) ]
    ],
    λ either. elim either [
      | inl old ↦ elim (three_cases xs ys zs m old) [
        | inl one ↦ Contains-append_left ((xs ++ x ∷ []) ++ ys) zs m (Contains-append_left (xs ++ x ∷ []) ys m (Contains-append_left xs (x ∷ []) m one))
        | inr others ↦ elim others [
          | inl two ↦ Contains-append_left ((xs ++ x ∷ []) ++ ys) zs m (Contains-append_right (xs ++ x ∷ []) ys m two)
          | inr three ↦ Contains-append_right ((xs ++ x ∷ []) ++ ys) zs m three
        ]
      ]
      | inr new ↦ subst (Contains ((xs ++ x ∷ []) ++ ys ++ zs)) new (Contains-append_left ((xs ++ x ∷ []) ++ ys) zs x (Contains-append_left (xs ++ x ∷ []) ys x (Contains-append_right xs (x ∷ []) x (first_in x []))))
    ],
  )

  more_two : (x : Move (List Bool)) → More (xs ++ (ys ++ x ∷ []) ++ zs) x
  more_two x = (
    λ among. elim (three_cases xs (ys ++ x ∷ []) zs m among) [
      | inl one ↦ inl (in_one one)
      | inr others ↦ elim others [
        | inl two ↦ elim (Contains-append_cases ys (x ∷ []) m two) [ inl old ↦ inl (in_two old) | inr new ↦ inr (only_one x m new) ]
        | inr three ↦ inl (in_three three)
      ]
    ],
    λ either. elim either [
      | inl old ↦ elim (three_cases xs ys zs m old) [
        | inl one ↦ Contains-append_left (xs ++ (ys ++ x ∷ [])) zs m (Contains-append_left xs (ys ++ x ∷ []) m one)
        | inr others ↦ elim others [
          | inl two ↦ Contains-append_left (xs ++ (ys ++ x ∷ [])) zs m (Contains-append_right xs (ys ++ x ∷ []) m (Contains-append_left ys (x ∷ []) m two))
          | inr three ↦ Contains-append_right (xs ++ (ys ++ x ∷ [])) zs m three
        ]
      ]
      | inr new ↦ subst (Contains (xs ++ (ys ++ x ∷ []) ++ zs)) new (Contains-append_left (xs ++ (ys ++ x ∷ [])) zs x (Contains-append_right xs (ys ++ x ∷ []) x (Contains-append_right ys (x ∷ []) x (first_in x []))))
    ],
  )

  more_three : (x : Move (List Bool)) → More (xs ++ ys ++ (zs ++ x ∷ [])) x
  more_three x = (
    λ among. elim (three_cases xs ys (zs ++ x ∷ []) m among) [
      | inl one ↦ inl (in_one one)
      | inr others ↦ elim others [
        | inl two ↦ inl (in_two two)
        | inr three ↦ elim (Contains-append_cases zs (x ∷ []) m three) [ inl old ↦ inl (in_three old) | inr new ↦ inr (only_one x m new) ]
      ]
    ],
    λ either. elim either [
      | inl old ↦ elim (three_cases xs ys zs m old) [
        | inl one ↦ Contains-append_left (xs ++ ys) (zs ++ x ∷ []) m (Contains-append_left xs ys m one)
        | inr others ↦ elim others [
          | inl two ↦ Contains-append_left (xs ++ ys) (zs ++ x ∷ []) m (Contains-append_right xs ys m two)
          | inr three ↦ Contains-append_right (xs ++ ys) (zs ++ x ∷ []) m (Contains-append_left zs (x ∷ []) m three)
        ]
      ]
      | inr new ↦ subst (Contains (xs ++ ys ++ (zs ++ x ∷ []))) new (Contains-append_right (xs ++ ys) (zs ++ x ∷ []) x (Contains-append_right zs (x ∷ []) x (first_in x [])))
    ],
  )

module _ (letters : ℕ) (old new : List Laid × Laid) where
  pub gains_alone : (x : AloneMove) (move : Move (List Bool)) → alone_move x ≡ move → new ≡ (old.0, with_alone old.1 x) → Gains letters move old new
  gains_alone x move is gained = record {
    ended = ap (λ v. v.0) gained;
    same = λ other.
        subst (λ l. Contains l other ↔ (Contains (all_moves letters old.1) other ⊎ (move ≡ other)))
        (sym ((λ i. all_moves letters (gained i).1) ∙ (λ i. (map-append alone_move old.1.alone (x ∷ []) ∙ ap (λ y. map alone_move old.1.alone ++ y ∷ []) is) i ++ map set_move old.1.by_set ++ map (letter_move letters) old.1.by_letter)))
        (more_one (map alone_move old.1.alone) (map set_move old.1.by_set) (map (letter_move letters) old.1.by_letter) other move);
    below = λ all. subst (λ l. All (λ (m : LetterMove). m.letter < letters) l) (sym (ap (λ v. v.1.by_letter) gained)) all;
  }

  pub gains_set : (x : SetMove) (move : Move (List Bool)) → set_move x ≡ move → new ≡ (old.0, with_set old.1 x) → Gains letters move old new
  gains_set x move is gained = record {
    ended = ap (λ v. v.0) gained;
    same = λ other.
        subst (λ l. Contains l other ↔ (Contains (all_moves letters old.1) other ⊎ (move ≡ other)))
        (sym ((λ i. all_moves letters (gained i).1) ∙ (λ i. map alone_move old.1.alone ++ (map-append set_move old.1.by_set (x ∷ []) ∙ ap (λ y. map set_move old.1.by_set ++ y ∷ []) is) i ++ map (letter_move letters) old.1.by_letter)))
        (more_two (map alone_move old.1.alone) (map set_move old.1.by_set) (map (letter_move letters) old.1.by_letter) other move);
    below = λ all. subst (λ l. All (λ (m : LetterMove). m.letter < letters) l) (sym (ap (λ v. v.1.by_letter) gained)) all;
  }

  pub gains_letter : (x : LetterMove) (move : Move (List Bool)) → letter_move letters x ≡ move → x.letter < letters → new ≡ (old.0, with_letter old.1 x) → Gains letters move old new
  gains_letter x move is below gained = record {
    ended = ap (λ v. v.0) gained;
    same = λ other.
        subst (λ l. Contains l other ↔ (Contains (all_moves letters old.1) other ⊎ (move ≡ other)))
        (sym ((λ i. all_moves letters (gained i).1) ∙ (λ i. map alone_move old.1.alone ++ map set_move old.1.by_set ++ (map-append (letter_move letters) old.1.by_letter (x ∷ []) ∙ ap (λ y. map (letter_move letters) old.1.by_letter ++ y ∷ []) is) i)))
        (more_three (map alone_move old.1.alone) (map set_move old.1.by_set) (map (letter_move letters) old.1.by_letter) other move);
    below = λ all. subst (λ l. All (λ (m : LetterMove). m.letter < letters) l) (sym (ap (λ v. v.1.by_letter) gained)) (All-push (λ (m : LetterMove). m.letter < letters) old.1.by_letter x all below);
  }

-- the move, by what its kind is, where it leads to another state
pub move_is : {L : Type 0} (letters : L → List Bool) (move : Move L) (kind : MoveKind L) (to : ℕ) → move.kind ≡ kind → record { kind = kind_of letters kind; to = to } ≡ led_to (move_of letters move) to
move_is letters move kind to is = λ i. record { kind = kind_of letters (sym is i); to = to }

-- and one more of them
pub gains_one : (letters : ℕ) (move : Move (List Bool)) (old new : List Laid × Laid) → Gains letters move old new → GainsAll letters (move ∷ []) old new
gains_one letters move old new gains = record {
  ended = gains.ended;
  same = λ other. (
    λ among. elim ((gains.same other).0 among) [ inl earlier ↦ inl earlier | inr here ↦ inr (subst (Contains (move ∷ [])) here (first_in move [])) ],
    λ either. (gains.same other).1 (elim either [ inl earlier ↦ inl earlier | inr gained ↦ inr (only_one move other gained) ]),
  );
  below = gains.below;
}

pub gains_more : {X : Type 0} (f : X → Move (List Bool)) (xs : List X) (i : ℕ) (d : X) → i < length xs → (letters : ℕ) (old mid new : List Laid × Laid)
    → GainsAll letters (map f (take i xs)) old mid → Gains letters (f (get_or xs i d)) mid new → GainsAll letters (map f (take (i + 1) xs)) old new
gains_more f xs i d below letters old mid new so_far gains = record {
  ended = gains.ended ∙ so_far.ended;
  same = λ move.
      subst (λ l. Contains (all_moves letters new.1) move ↔ (Contains (all_moves letters old.1) move ⊎ Contains l move)) (sym (map_more f xs i d below)) (
        λ among. elim ((gains.same move).0 among) [
          | inl earlier ↦ elim ((so_far.same move).0 earlier) [
            | inl first ↦ inl first
            | inr gained ↦ inr (Contains-append_left (map f (take i xs)) (f (get_or xs i d) ∷ []) move gained)
          ]
          | inr new ↦ inr (Contains-append_right (map f (take i xs)) (f (get_or xs i d) ∷ []) move (subst (Contains (f (get_or xs i d) ∷ [])) new (first_in (f (get_or xs i d)) [])))
        ],
        λ either. (gains.same move).1 (elim either [
          | inl first ↦ inl ((so_far.same move).1 (inl first))
          | inr gained ↦ elim (Contains-append_cases (map f (take i xs)) (f (get_or xs i d) ∷ []) move gained) [
            | inl earlier ↦ inl ((so_far.same move).1 (inr earlier))
            | inr new ↦ inr (only_one (f (get_or xs i d)) move new)
          ]
        ]),
      );
  below = λ all. gains.below (so_far.below all);
}

-- what is made of one more
pub flat_more : {X Y Z : Type 0} (g : Y → List Z) (f : X → Y) (xs : List X) (i : ℕ) (x : X) → i < length xs → get_or xs i x ≡ x
    → flat_map g (map f (take (i + 1) xs)) ≡ flat_map g (map f (take i xs)) ++ g (f x)
flat_more g f xs i x below at =
    let so_far = map f (take i xs) in
    ap (flat_map g) (map_more f xs i x below ∙ ap (λ y. so_far ++ f y ∷ []) at) ∙ flat_map-append g so_far (f x ∷ []) ∙ ap (λ l. flat_map g so_far ++ l) (append-nil (g (f x)))

-- and what is made of one more move
pub gains_flat_more : {X : Type 0} (g : Move (List Bool) → List (Move (List Bool))) (f : X → Move (List Bool)) (xs : List X) (i : ℕ) (x : X) → i < length xs → get_or xs i x ≡ x
    → (letters : ℕ) (old mid new : List Laid × Laid) → GainsAll letters (flat_map g (map f (take i xs))) old mid → GainsAll letters (g (f x)) mid new
    → GainsAll letters (flat_map g (map f (take (i + 1) xs))) old new
gains_flat_more g f xs i x below at letters old mid new so_far gains =
    let earlier_ones = flat_map g (map f (take i xs)) in
    record {
      ended = gains.ended ∙ so_far.ended;
      same = λ move.
          subst (λ l. Contains (all_moves letters new.1) move ↔ (Contains (all_moves letters old.1) move ⊎ Contains l move)) (sym (flat_more g f xs i x below at)) (
            λ among. elim ((gains.same move).0 among) [
              | inl earlier ↦ elim ((so_far.same move).0 earlier) [ inl first ↦ inl first | inr gained ↦ inr (Contains-append_left earlier_ones (g (f x)) move gained) ]
              | inr here ↦ inr (Contains-append_right earlier_ones (g (f x)) move here)
            ],
            λ either. (gains.same move).1 (elim either [
              | inl first ↦ inl ((so_far.same move).1 (inl first))
              | inr gained ↦ elim (Contains-append_cases earlier_ones (g (f x)) move gained) [ inl earlier ↦ inl ((so_far.same move).1 (inr earlier)) | inr here ↦ inr here ]
            ]),
          );
      below = λ all. gains.below (so_far.below all);
    }

pub gains_none : (letters : ℕ) (lists : List Laid × Laid) → GainsAll letters [] lists lists
gains_none letters lists = record {
  ended = refl;
  same = λ move. (λ among. inl among, λ either. elim either [ inl among ↦ among | inr none ↦ absurd (Contains-nil move none) ]);
  below = λ all. all;
}

-- the moves of a state that had none
pub laid_from_none : (letters : ℕ) (moves : List (Move (List Bool))) (old new : List Laid × Laid) → old.1 ≡ none_laid → GainsAll letters moves old new → IsLaidOut letters moves new.1
laid_from_none letters moves old new none gains = record {
  same = λ move. (
    λ among. elim ((gains.same move).0 among) [
      | inl earlier ↦ absurd (Contains-nil move (subst (λ (s : Laid). Contains (all_moves letters s) move) none earlier))
      | inr gained ↦ gained
    ],
    λ gained. (gains.same move).1 (inr gained),
  );
  below = gains.below (subst (AreLettersOf letters) (sym none) (λ k d less. absurd (omega (arith, less))));
}

-- ---- all states

-- the states before the one of number n have the moves of the machine's
pub record AreStatesTo (t : Machine) (n : ℕ) (states : List Laid) : Type 0 where
  pub count : length states ≡ n
  pub each : (q : ℕ) (none : Laid) → q < n → IsLaidOut t.letters (moves_of t q) (get_or states q none)

pub states_none : (t : Machine) (states : List Laid) → states ≡ [] → AreStatesTo t 0 states
states_none t states none = record { count = ap (λ (l : List Laid). length l) none; each = λ q d below. absurd (omega (arith, below)) }

pub states_more : (t : Machine) (n letters : ℕ) (states next : List Laid) (state : Laid) (moves : List (Move (List Bool))) → AreStatesTo t n states → next ≡ states ++ state ∷ []
    → letters ≡ t.letters → moves ≡ moves_of t n → IsLaidOut letters moves state → AreStatesTo t (n + 1) next
states_more t n letters states next state moves so_far new letters_are moves_are laid_out = record {
  count = ap (λ (l : List Laid). length l) new ∙ length_push states state ∙ ap (λ k. k + 1) so_far.count;
  each = λ q none below.
      subst (λ l. IsLaidOut t.letters (moves_of t q) (get_or l q none)) (sym new)
      (elim (cases_lt q n) [
        | inl less ↦ subst (IsLaidOut t.letters (moves_of t q)) (sym (get_or_append_left states (state ∷ []) none q (omega (arith, less, so_far.count)))) (so_far.each q none less)
        | inr past ↦
            let here : q ≡ n = omega (arith, past, below) in
            let laid : IsLaidOut t.letters (moves_of t n) state = subst (λ l. IsLaidOut t.letters l state) moves_are (subst (λ k. IsLaidOut k moves state) letters_are laid_out) in
            subst (IsLaidOut t.letters (moves_of t q)) (sym (get_or_push states state none q (so_far.count ∙ sym here))) (subst (λ k. IsLaidOut t.letters (moves_of t k) state) (sym here) laid)
      ]);
}

pub states_all : (t : Machine) (n : ℕ) (states : List Laid) → n ≡ machine_states t → AreStatesTo t n states → AreLaidOut t states
states_all t n states all to = record { each = to.count ∙ all; laid_out = λ q none below. to.each q none (omega (arith, below, all)) }

-- ---- whether each is final

same_truth : (a b : Bool) → (IsTrue a ↔ IsTrue b) → a ≡ b
same_truth true b same = sym (same.0 refl)
same_truth false true same = same.1 refl
same_truth false false same = refl

pub finals_more : (finals next so_far : List Bool) (n : ℕ) (is_final : Bool) → n < length finals → next ≡ so_far ++ is_final ∷ [] → so_far ≡ take n finals → (IsTrue is_final ↔ IsTrue (get_or finals n false))
    → next ≡ take (n + 1) finals
finals_more finals next so_far n is_final below new are same =
    new ∙ ap (λ l. l ++ is_final ∷ []) are ∙ ap (λ b. take n finals ++ b ∷ []) (same_truth is_final (get_or finals n false) same) ∙ sym (take_more finals n false below)

-- ---- the machine that is laid out

-- what is made of an element that there is
some_at : {X Y : Type 0} (f : X → Y) (xs : List X) (k : ℕ) (d : Y) → k < length xs → (x : X) × (get_or (map f xs) k d ≡ f x) × (get_or xs k x ≡ x)
some_at f [] k d below = absurd (omega (arith, below))
some_at f (x ∷ xs) zero d below = (x, refl, refl)
some_at f (x ∷ xs) (suc k) d below = some_at f xs k d (omega (arith, below))

module _ (t : Machine) (ok : IsMachine t) (letters start : ℕ) (finals : List Bool) (states : List Laid) (letters_are : letters ≡ t.letters) (start_is : start ≡ t.start) (finals_are : finals ≡ t.finals)
    (laid : AreLaidOut t states) where
  abbrev made : Machine
  made = record { letters = letters; start = start; finals = finals; moves = map (all_moves letters) states }

  count : length made.moves ≡ machine_states t
  count = length-map states (all_moves letters) ∙ laid.each

  -- the moves of a state
  state_at : (q : ℕ) (d : List (Move (List Bool))) → q < machine_states t → (s : Laid) × (get_or made.moves q d ≡ all_moves t.letters s) × IsLaidOut t.letters (moves_of t q) s
  state_at q d below =
      let found = some_at (all_moves letters) states q d (omega (arith, below, laid.each)) in
      (found.0, found.1 ∙ ap (λ n. all_moves n found.0) letters_are, subst (IsLaidOut t.letters (moves_of t q)) found.2 (laid.laid_out q found.0 below))

  same_at : (q : ℕ) (d : List (Move (List Bool))) → q < machine_states t → (m : Move (List Bool)) → Contains (get_or made.moves q d) m ↔ Contains (moves_of t q) m
  same_at q d below m =
      let s = state_at q d below in
      subst (λ l. Contains l m ↔ Contains (moves_of t q) m) (sym s.1) (s.2.same m)

  same_moves : (q : ℕ) (m : Move (List Bool)) → Contains (moves_of made q) m ↔ Contains (moves_of t q) m
  same_moves q m = elim (cases_lt q (machine_states t)) [
    | inl below ↦ same_at q [] below m
    | inr past ↦
        let here = get_or_past made.moves q [] (omega (arith, past, count)) in
        let there = get_or_past t.moves q [] (omega (arith, past, ok.each)) in
        (λ among. subst (λ l. Contains l m) (here ∙ sym there) among, λ among. subst (λ l. Contains l m) (there ∙ sym here) among)
  ]

  abbrev IsMoveOf : Move (List Bool) → Type 0
  IsMoveOf = IsMove t.letters (machine_states t)

  are_moves : All (All IsMoveOf) made.moves
  are_moves q d below k e inside =
      let small : q < machine_states t = omega (arith, below, count) in
      let m = get_or (get_or made.moves q d) k e in
      All-contains IsMoveOf (moves_of t q) m (ok.moves q [] (omega (arith, small, ok.each))) ((same_at q d small m).0 (Contains-get_or (get_or made.moves q d) k e inside))

  pub made_ok : IsMachine made
  made_ok = record {
    each = count ∙ sym (ap (λ (l : List Bool). length l) finals_are);
    starts = subst (λ n. n < length finals) (sym start_is) (subst (λ (l : List Bool). t.start < length l) (sym finals_are) ok.starts);
    moves =
        subst (λ n. All (All (IsMove n (length finals))) made.moves) (sym letters_are)
        (subst (λ (l : List Bool). All (All (IsMove t.letters (length l))) made.moves) (sym finals_are) are_moves);
  }

  pub letters_ok : All (AreLettersOf letters) states
  letters_ok q none below = subst (λ n. AreLettersOf n (get_or states q none)) (sym letters_are) (laid.laid_out q none (omega (arith, below, laid.each))).below

  module _ (read : ℕ → ℕ) where
    follow_to : (steps : List Step) (p q : ℕ) → Follow read made p steps q → Follow read t p steps q
    follow_to [] p q here = here
    follow_to (step ∷ rest) p q ((kind, move, does), more) = ((kind, (same_moves p (record { kind = kind; to = step.to })).0 move, does), follow_to rest step.to q more)

    follow_from : (steps : List Step) (p q : ℕ) → Follow read t p steps q → Follow read made p steps q
    follow_from [] p q here = here
    follow_from (step ∷ rest) p q ((kind, move, does), more) = ((kind, (same_moves p (record { kind = kind; to = step.to })).1 move, does), follow_from rest step.to q more)

    pub made_relates : (u v : List ℕ) → Relates read made u v ↔ Relates read t u v
    made_relates u v = (
      λ (q, (steps, follows, reads, writes), final). (
        q,
        (steps, subst (λ p. Follow read t p steps q) start_is (follow_to steps start q follows), reads, writes),
        subst (λ (l : List Bool). IsTrue (get_or l q false)) finals_are final,
      ),
      λ (q, (steps, follows, reads, writes), final). (
        q,
        (steps, subst (λ p. Follow read made p steps q) (sym start_is) (follow_from steps t.start q follows), reads, writes),
        subst (λ (l : List Bool). IsTrue (get_or l q false)) (sym finals_are) final,
      ),
    )
