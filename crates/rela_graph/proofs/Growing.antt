-- Lists that grow at the end.
use Rattle.std.proofs.Common.{◌≡◌, ℕ, ◌+◌, ◌<◌, ◌≤◌, ◌⊎◌, ◌↔◌, List, [], ◌∷◌, ◌++◌, length, get_or, inl, inr, arith, sym, ap, ◌∙◌, append_assoc, length-append}
use Rattle.std.specs.List.{Contains}
use Rattle.std.proofs.lemmas.Bool.{cases_lt}
use Rattle.std.proofs.lemmas.List.{append-nil, get_or_append_left, get_or_default, get_or_push}
use Rattle.std.proofs.lemmas.List.Elements.{Contains-append_left, Contains-push_cases}
use Rattle.rela_graph.specs.NodeSet.{Inserts}
use Rattle.rela_graph.specs.Spread.{Adds, Spread, here, step}
use Rattle.rela_graph.specs.Topology.{Topology, HasEdge}
use Rattle.rela_graph.specs.declared.node.Link.{Link}

-- what was there stays
pub insert_keeps : (old new : List ℕ) (n : ℕ) → Inserts old new n → (m : ℕ) → Contains old m → Contains new m
insert_keeps old new n h m c = elim h.1 [ inl same ↦ rw same c | inr more ↦ rw more (Contains-append_left old (n ∷ []) m c) ]

-- and only n is new
pub insert_only : (old new : List ℕ) (n : ℕ) → Inserts old new n → (m : ℕ) → Contains new m → Contains old m ⊎ (n ≡ m)
insert_only old new n h m c = elim h.1 [ inl same ↦ inl (rw same at c) | inr more ↦ Contains-push_cases old n m (rw more at c) ]

-- what was longer than the first list still is
pub insert_longer : (first old new : List ℕ) (n : ℕ) → Inserts old new n → (more : List ℕ) × (old ≡ first ++ more) → (more : List ℕ) × (new ≡ first ++ more)
insert_longer first old new n h longer = elim h.1 [
  | inl same ↦ (longer.0, same ∙ longer.1)
  | inr more ↦ (longer.0 ++ n ∷ [], more ∙ ap (λ l. l ++ n ∷ []) longer.1 ∙ append_assoc first longer.0 (n ∷ []))
]

pub added_keeps : {P : ℕ → Type 0} (old new : List ℕ) → Adds P old new → (m : ℕ) → Contains old m → Contains new m
added_keeps old new adds m c = rw adds.longer.1 (Contains-append_left old adds.longer.0 m c)

-- the list grows
pub added_length : {P : ℕ → Type 0} (old new : List ℕ) → Adds P old new → length old ≤ length new
added_length old new adds = let e = ap length adds.longer.1 in omega (arith, length-append old adds.longer.0)

-- the elements stand where they stood
pub added_at : {P : ℕ → Type 0} (old new : List ℕ) → Adds P old new → (k : ℕ) → k < length old → get_or new k 0 ≡ get_or old k 0
added_at old new adds k within = rw adds.longer.1 (get_or_append_left old adds.longer.0 0 k within)

-- what holds of each element so far and of one more
pub each_pushed : {X : Type 0} (d : X) (P : ℕ → X → Type 0) (xs : List X) (n : ℕ) (x : X) → length xs ≡ n → ((m : ℕ) → m < n → P m (get_or xs m d)) → P n x
    → (m : ℕ) → m < n + 1 → P m (get_or (xs ++ x ∷ []) m d)
each_pushed d P xs n x len so_far last m below = elim (cases_lt m n) [
  | inl less ↦ rw (get_or_append_left xs (x ∷ []) d m (omega arith)) (so_far m less)
  | inr more ↦ let same : m ≡ n = omega arith in rw (same, get_or_push xs x d n len) last
]

-- the first i of the edges from n have been followed: what they lead to is among the nodes
pub record Followed (g : Topology) (n : ℕ) (out : List Link) (i : ℕ) (first now : List ℕ) : Type 0 where
  pub longer : (more : List ℕ) × (now ≡ first ++ more)
  pub each : (m : ℕ) → Contains now m → Contains first m ⊎ HasEdge g n m
  pub all : (k : ℕ) (d : Link) → k < i → Contains now (get_or out k d).b

module _ (g : Topology) (n : ℕ) (out : List Link) (first : List ℕ) where
  pub none_followed : Followed g n out 0 first first
  none_followed = record { longer = ([], sym (append-nil first)); each = λ m c. inl c; all = λ k d below. absurd (omega arith) }

  pub one_followed : (i : ℕ) (before after : List ℕ) (link : Link) → Followed g n out i first before → ((d : Link) → get_or out i d ≡ link)
      → HasEdge g n link.b → Inserts before after link.b → Followed g n out (i + 1) first after
  one_followed i before after link so_far at edge put = record {
    longer = insert_longer first before after link.b put so_far.longer;
    each = λ m c. elim (insert_only before after link.b put m c) [ inl old ↦ so_far.each m old | inr same ↦ inr (rw same at edge) ];
    all = λ k d below. elim (cases_lt k i) [
      | inl less ↦ insert_keeps before after link.b put _ (so_far.all k d less)
      | inr more ↦ let same : k ≡ i = omega arith in rw (same, at d) put.0
    ];
  }

  pub all_followed : (i : ℕ) (now : List ℕ) → Followed g n out i first now → length out ≤ i
      → ((b : ℕ) → HasEdge g n b → Contains out (record { a = n; b = b })) → Adds (HasEdge g n) first now
  all_followed i now so_far over all = record {
    longer = so_far.longer;
    each = so_far.each;
    all = λ m edge.
        let link : Link = record { a = n; b = m } in
        let found = all m edge in
        rw (ap (λ (l : Link). l.b) found.2) at (so_far.all found.0 link (let w = found.1 in omega arith));
  }

-- the first `done` of the nodes have been followed
pub record Spreads (g : Topology) (done : ℕ) (first now : List ℕ) : Type 0 where
  pub kept : (m : ℕ) → Contains first m → Contains now m
  pub reached : (m : ℕ) → Contains now m → Spread g (Contains first) m
  pub followed : (k m : ℕ) → k < done → HasEdge g (get_or now k 0) m → Contains now m

module _ (g : Topology) (first : List ℕ) where
  pub spread_none : Spreads g 0 first first
  spread_none = record { kept = λ m c. c; reached = λ m c. here c; followed = λ k m below. absurd (omega arith) }

  pub spread_more : (done : ℕ) (before after : List ℕ) (n : ℕ) → Spreads g done first before → done < length before → n ≡ get_or before done 0
      → Adds (HasEdge g n) before after → Spreads g (done + 1) first after
  spread_more done before after n so_far within n_is adds =
      let member : Contains before n = (done, within, get_or_default before done n 0 within ∙ sym n_is) in
      record {
        kept = λ m c. added_keeps before after adds m (so_far.kept m c);
        reached = λ m c. elim (adds.each m c) [ inl old ↦ so_far.reached m old | inr next ↦ step (so_far.reached n member) next ];
        followed = λ k m below next. elim (cases_lt k done) [
          | inl less ↦ added_keeps before after adds m (so_far.followed k m less (rw (added_at before after adds k (omega arith)) at next))
          | inr more ↦
              let same : k ≡ done = omega arith in
              adds.all m (rw (same, added_at before after adds done within, ← n_is) at next)
        ];
      }

  pub spread_all : (done : ℕ) (now : List ℕ) → Spreads g done first now → length now ≤ done
      → (m : ℕ) → Contains now m ↔ Spread g (Contains first) m
  spread_all done now so_far over m = (so_far.reached m, closed)
    where
      closed : {m : ℕ} → Spread g (Contains first) m → Contains now m
      closed (here c) = so_far.kept _ c
      closed (step {m = u} {n = m} s edge) =
          let from = closed s in
          so_far.followed from.0 m (let w = from.1 in omega arith)
          (rw (get_or_default now from.0 0 u from.1, from.2) edge)
