use Rattle.std.proofs.Common.{◌≡◌, ◌<◌, ◌≤◌, List, [], ◌∷◌, ◌++◌, ℕ, length, get_or, sym, ap, ◌∙◌, subst, refl, arith}
use Rattle.std.proofs.lemmas.List.{get_or-map, take_more}
use Rattle.std.proofs.lemmas.List.Elements.{All-push}
use Rattle.rela_letter_nfa.specs.Buckets.{AreWithin, bucket_of, sets_at}
use Rattle.rela_letter_nfa.specs.Parting.{part}
use Rattle.rela_letter_nfa.specs.declared.state_sets.Placed.{Placed}
use Rattle.rela_letter_nfa.proofs.Bucketing.{bucketed_push, sets_count, sets_push}
use Rattle.rela_letter_nfa.proofs.state_sets.enter_all.Goals as goal

pub loop-number-preserved : goal.loop-number-preserved
loop-number-preserved c =
    let items = c.args.items.now in
    let old = c.args.old.now in
    let n = c.loop-number.number in
    let placed = c.loop-number.placed.items in
    let lasts = c.loop-number.lasts.items in
    let none : Placed = record { from = 0; to = 0; before = 0 } in
    let was : Placed = get_or old n none in
    let k = c.bucket_of-bucket.result in
    let place : Placed = record { from = was.from; to = was.to; before = get_or lasts k 0 } in
    let below : n < length old = c.loop-number-test.true in
    let sets = sets_at items old in
    let states : List ℕ = get_or sets n [] in
    let at : part items place.from place.to ≡ states = sym (get_or-map (λ (p : Placed). part items p.from p.to) old n none [] below) in
    let is : c.enter.new.placed.items ≡ placed ++ place ∷ [] = c.in_ok-enter.ensures.placed in
    let count : c.len.result ≡ length lasts = c.len.ensures ∙ c.loop-number.lasts.ok.0 in
    let bucket : k ≡ bucket_of (length lasts) states = c.bucket_of-bucket.ensures.bucket ∙ ap (λ m. bucket_of m c.set_at.result.now) count ∙ ap (bucket_of (length lasts)) c.set_at.ensures in
    record {
      within =
          subst (AreWithin (length items)) (sym is)
          (All-push (λ (p : Placed). (p.from ≤ p.to) × (p.to ≤ length items)) placed place c.loop-number.invariant.within (c.requires.within n none below));
      same =
          sets_push items placed c.enter.new.placed.items place is ∙ ap (λ (l : List ℕ). sets_at items placed ++ l ∷ []) at
          ∙ ap (λ (l : List (List ℕ)). l ++ states ∷ []) c.loop-number.invariant.same ∙ sym (take_more sets n [] (omega (arith, below, sets_count items old)));
      bucketed = bucketed_push items states placed c.enter.new.placed.items lasts c.enter.new.lasts.items place k (omega (arith, count, c.bucket_of-bucket.ensures.below)) bucket refl at is c.in_ok-enter.ensures.lasts
          c.loop-number.invariant.bucketed;
    }
