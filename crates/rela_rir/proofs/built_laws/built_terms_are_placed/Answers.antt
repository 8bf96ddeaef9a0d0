use Rattle.rela_rir.proofs.BuiltTerms as built
use Rattle.rela_rir.proofs.built_laws.built_terms_are_placed.Goals as goal

pub returns : goal.returns
returns g c =
    let M = g.M.Machinery.machines in record {
      leaves = λ at u. record {
        none = built.none (M.scene.of at) M.exactly (M.reach u);
        empty = built.empty (M.scene.of at) M.exactly (M.reach u);
        class = λ entry. built.class (M.scene.of at) M.exactly entry (M.reach u);
        one = λ s. built.one (M.scene.of at) M.exactly s (M.reach u);
        before = λ n. built.pre (M.scene.of at) M.exactly n (M.reach u);
        after = λ n. built.post (M.scene.of at) M.exactly n (M.reach u);
      };
      sets = λ at x n a u first. record {
        star = built.star (M.scene.of at) M.exactly x n (M.reach a) (M.reach u) first;
        complement = built.complement (M.scene.of at) M.exactly x n (M.reach a) (M.reach u) first;
        union = λ y k b second. built.union (M.scene.of at) M.exactly x y n k (M.reach a) (M.reach b) (M.reach u) first second;
        concat = λ y k b second. built.joined (M.scene.of at) M.exactly x y n k (M.reach a) (M.reach b) (M.reach u) first second;
        meet = λ y k b second. built.meet (M.scene.of at) M.exactly x y n k (M.reach a) (M.reach b) (M.reach u) first second;
        image = λ r k t second pairs. built.image (M.scene.of at) M.exactly x n (M.reach a) (M.reach u) first r k (M.reach_pair t) pairs second;
      };
      products = λ at x n a u first. record {
        identity = built.identity (M.scene.of at) M.exactly x n (M.reach a) (M.reach_pair u) first;
        product = λ y k b second. built.product (M.scene.of at) M.exactly x y n k (M.reach a) (M.reach b) (M.reach_pair u) first second;
      };
      relations = λ at r n t u first. record {
        star = built.star_r (M.scene.of at) M.exactly r n (M.reach_pair t) (M.reach_pair u) first;
        union = λ s k b second. built.union_r (M.scene.of at) M.exactly r s n k (M.reach_pair t) (M.reach_pair b) (M.reach_pair u) first second;
        concat = λ s k b second. built.joined_r (M.scene.of at) M.exactly r s n k (M.reach_pair t) (M.reach_pair b) (M.reach_pair u) first second;
        compose = λ s k b second. built.composed (M.scene.of at) M.exactly r s n k (M.reach_pair t) (M.reach_pair b) (M.reach_pair u) first second;
      };
    }
