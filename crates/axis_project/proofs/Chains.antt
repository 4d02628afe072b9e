-- Labels of joined variables, and the parts that they come to.
use Rattle.std.proofs.Common.{◌≡◌, ◌∙◌, ap, sym, refl, subst, ℕ, ◌+◌, ◌<◌, ◌≤◌, List, [], ◌∷◌, length, get_or, map, Bool, true, false, ◌==◌, nat_lt, if◌then◌else◌, ◌⊎◌, ⊎_elim, inl, inr, All, arith}
use Rattle.std.proofs.lemmas.List.{get_or-map, length-map}
use Rattle.std.proofs.lemmas.Bool.{cond-true, eq-eqb, eqb-true, ltb-true, ltb-false}
use Rattle.units.specs.declared.geometry.Sep.{Sep}
use Rattle.units.specs.Problem.{IsSeparation}
use Rattle.units.specs.Separation.{separation_at, no_separation}
use Rattle.axis_project.specs.Parts.{StandsBetween, AreLinked, IsChain, AreJoined, ArePartsOf}
use Rattle.axis_project.specs.Labels.{renamed, joined, AreLabels}

pub below_or_at : (j k : ℕ) → j < k + 1 → (j < k) ⊎ (j ≡ k)
below_or_at j k h = grind arith

module _ (seps : List Sep) where
  -- ---- what is joined: to itself, both ways, and over a third

  pub turned : {a b : ℕ} → AreLinked seps a b → AreLinked seps b a
  turned link = record { number = link.number; among = link.among; between = other link.between }
    where
      other : {A B C D : Type 0} → (A × B) ⊎ (C × D) → (C × D) ⊎ (A × B)
      other (inl h) = inr h
      other (inr h) = inl h

  pub itself : (a : ℕ) → AreJoined seps a a
  itself a = ([], refl)

  pub chains : (vs ws : List ℕ) (a b c : ℕ) → IsChain seps a vs b → IsChain seps b ws c → AreJoined seps a c
  chains [] ws a b c first second = (ws, subst (λ x. IsChain seps x ws c) (sym first) second)
  chains (v ∷ vs) ws a b c first second = let rest = chains vs ws v b c first.1 second in (v ∷ rest.0, (first.0, rest.1))

  pub over : {a b c : ℕ} → AreJoined seps a b → AreJoined seps b c → AreJoined seps a c
  over {a} {b} {c} first second = chains first.0 second.0 a b c first.1 second.1

  pub linked : {a b : ℕ} → AreLinked seps a b → AreJoined seps a b
  linked {a} {b} link = (b ∷ [], (link, refl))

  pub back : {a b : ℕ} → AreJoined seps a b → AreJoined seps b a
  back {a} {b} chain = from chain.0 a chain.1
    where
      from : (vs : List ℕ) (x : ℕ) → IsChain seps x vs b → AreJoined seps b x
      from [] x is = subst (AreJoined seps b) (sym is) (itself b)
      from (v ∷ vs) x is = over (from vs v is.1) (linked (turned is.0))

  pub ends : (k : ℕ) → k < length seps → AreLinked seps (separation_at seps k).left (separation_at seps k).right
  ends k within = record { number = k; among = within; between = inl (refl, refl) }

  -- ---- one separation more

  module _ (n : ℕ) (labels : List ℕ) (k : ℕ) (so_far : AreLabels n seps k labels) (from to : ℕ) where
    renamed_at : (v : ℕ) → v < n → get_or (map (renamed from to) labels) v 0 ≡ renamed from to (get_or labels v 0)
    renamed_at v within = get_or-map (renamed from to) labels v 0 0 (omega (arith, so_far.as_long))

    -- the label `from` of x goes, and the label `to` of y comes in its place
    pub relabelled : (x y : ℕ) → x < n → y < n → get_or labels x 0 ≡ from → get_or labels y 0 ≡ to → AreJoined seps x y → to ≤ from
        → ((j : ℕ) → j < k → ((separation_at seps j).left < n) × ((separation_at seps j).right < n))
        → StandsBetween (separation_at seps k) x y → AreLabels n seps (k + 1) (map (renamed from to) labels)
    relabelled x y x_within y_within x_is y_is joins less below between = record {
      as_long = length-map labels (renamed from to) ∙ so_far.as_long;
      own = λ v within. subst (AreJoined seps v) (sym (renamed_at v within)) (own_by v within (get_or labels v 0 == from) refl);
      below = λ v within. subst (λ l. l ≤ v) (sym (renamed_at v within)) (below_by v within (get_or labels v 0 == from) refl);
      same = λ j within. by_last j within;
    }
      where
        to_y : AreJoined seps from to
        to_y = subst (λ l. AreJoined seps l to) x_is (over (back (so_far.own x x_within)) (over joins (subst (AreJoined seps y) y_is (so_far.own y y_within))))

        own_by : (v : ℕ) → v < n → (b : Bool) → (get_or labels v 0 == from) ≡ b → AreJoined seps v (if b then to else get_or labels v 0)
        own_by v within true is = over (subst (AreJoined seps v) (eqb-true _ _ is) (so_far.own v within)) to_y
        own_by v within false is = so_far.own v within

        below_by : (v : ℕ) → v < n → (b : Bool) → (get_or labels v 0 == from) ≡ b → (if b then to else get_or labels v 0) ≤ v
        below_by v within true is = let low = so_far.below v within in let same = eqb-true (get_or labels v 0) from is in omega arith
        below_by v within false is = so_far.below v within

        earlier : (j : ℕ) → j < k → get_or (map (renamed from to) labels) (separation_at seps j).left 0 ≡ get_or (map (renamed from to) labels) (separation_at seps j).right 0
        earlier j within =
            let ends = below j within in
            renamed_at (separation_at seps j).left ends.0 ∙ ap (renamed from to) (so_far.same j within) ∙ sym (renamed_at (separation_at seps j).right ends.1)

        -- the labels of x and y are `to` both
        at_x : get_or (map (renamed from to) labels) x 0 ≡ to
        at_x = renamed_at x x_within ∙ ap (renamed from to) x_is ∙ cond-true (from == from) to from (eq-eqb from from refl)

        at_y : get_or (map (renamed from to) labels) y 0 ≡ to
        at_y = renamed_at y y_within ∙ ap (renamed from to) y_is ∙ same_both (to == from)
          where
            same_both : (b : Bool) → (if b then to else to) ≡ to
            same_both true = refl
            same_both false = refl

        last : (j : ℕ) → j ≡ k → get_or (map (renamed from to) labels) (separation_at seps j).left 0 ≡ get_or (map (renamed from to) labels) (separation_at seps j).right 0
        last j is = subst (λ i. get_or (map (renamed from to) labels) (separation_at seps i).left 0 ≡ get_or (map (renamed from to) labels) (separation_at seps i).right 0) (sym is) (by between)
          where
            by : StandsBetween (separation_at seps k) x y → get_or (map (renamed from to) labels) (separation_at seps k).left 0 ≡ get_or (map (renamed from to) labels) (separation_at seps k).right 0
            by (inl h) = ap (λ v. get_or (map (renamed from to) labels) v 0) h.0 ∙ at_x ∙ sym at_y ∙ ap (λ v. get_or (map (renamed from to) labels) v 0) (sym h.1)
            by (inr h) = ap (λ v. get_or (map (renamed from to) labels) v 0) h.0 ∙ at_y ∙ sym at_x ∙ ap (λ v. get_or (map (renamed from to) labels) v 0) (sym h.1)

        by_last : (j : ℕ) → j < k + 1 → get_or (map (renamed from to) labels) (separation_at seps j).left 0 ≡ get_or (map (renamed from to) labels) (separation_at seps j).right 0
        by_last j within = ⊎_elim (earlier j) (last j) (below_or_at j k within)

  module _ (n : ℕ) (sound : All (λ separation. IsSeparation n separation) seps) where
    -- a separation more
    pub labels_next : (labels : List ℕ) (k : ℕ) → AreLabels n seps k labels → k < length seps → AreLabels n seps (k + 1) (joined labels (separation_at seps k))
    labels_next labels k so_far within = by (nat_lt (get_or labels s.left 0) (get_or labels s.right 0)) refl
      where
        s : Sep
        s = separation_at seps k

        below : (j : ℕ) → j < k → ((separation_at seps j).left < n) × ((separation_at seps j).right < n)
        below j less = let is = sound j no_separation (omega arith) in (is.left, is.right)

        by : (b : Bool) → nat_lt (get_or labels (separation_at seps k).left 0) (get_or labels (separation_at seps k).right 0) ≡ b
            → AreLabels n seps (k + 1) (if b then map (renamed (get_or labels (separation_at seps k).right 0) (get_or labels (separation_at seps k).left 0)) labels else map (renamed (get_or labels (separation_at seps k).left 0) (get_or labels (separation_at seps k).right 0)) labels)
        by true is = let here = sound k no_separation within in
            relabelled n labels k so_far _ _ (separation_at seps k).right (separation_at seps k).left here.right here.left refl refl (back (linked (ends k within))) (omega (arith, ltb-true _ _ is)) below (inr (refl, refl))
        by false is = let here = sound k no_separation within in
            relabelled n labels k so_far _ _ (separation_at seps k).left (separation_at seps k).right here.left here.right refl refl (linked (ends k within)) (ltb-false _ _ is) below (inl (refl, refl))

    -- at the end, labels are parts
    pub parts_of : (labels : List ℕ) → AreLabels n seps (length seps) labels → ArePartsOf n seps labels
    parts_of labels are = record {
      as_long = are.as_long;
      joined = are.own;
      least = λ v w v_within w_within chain. subst (λ l. l ≤ w) (sym (along chain.0 v w chain.1)) (are.below w w_within);
    }
      where
        across : (a b : ℕ) → AreLinked seps a b → get_or labels a 0 ≡ get_or labels b 0
        across a b link = by link.between
          where
            by : StandsBetween (separation_at seps link.number) a b → get_or labels a 0 ≡ get_or labels b 0
            by (inl h) = ap (λ v. get_or labels v 0) (sym h.0) ∙ are.same link.number link.among ∙ ap (λ v. get_or labels v 0) h.1
            by (inr h) = ap (λ v. get_or labels v 0) (sym h.1) ∙ sym (are.same link.number link.among) ∙ ap (λ v. get_or labels v 0) h.0

        along : (vs : List ℕ) (a b : ℕ) → IsChain seps a vs b → get_or labels a 0 ≡ get_or labels b 0
        along [] a b chain = ap (λ v. get_or labels v 0) chain
        along (v ∷ vs) a b chain = across a v chain.0 ∙ along vs v b chain.1

    -- at the start each variable is its own label
    pub labels_alone : (labels : List ℕ) → length labels ≡ n → ((v : ℕ) → v < n → get_or labels v 0 ≡ v) → AreLabels n seps 0 labels
    labels_alone labels long own = record {
      as_long = long;
      own = λ v within. subst (AreJoined seps v) (sym (own v within)) (itself v);
      below = λ v within. omega (arith, own v within);
      same = λ j within. absurd (omega arith);
    }
