use Rattle.std.proofs.Common.{◌≡◌, ◌∙◌, ◌++◌, ◌∷◌, ◌<◌, ◌+◌, ◌⊎◌, ℕ, [], List, Bor, Option, Some, None, true, add-one, ap, option_map, get_or, inl, inr, length, map, refl, subst, sym, take}
use Rattle.std.specs.List.{All}
use Rattle.std.proofs.lemmas.List.{map-append, take_all}
use Rattle.std.proofs.lemmas.List.Elements.{All-push}
use Rattle.std.proofs.Math.Seq.{take-suc}
use Rattle.casbench.specs.Input.{names_input}
use Rattle.casbench.specs.declared.files.Source.{Source}
use Rattle.casbench.specs.declared.files.Source.TheVariants.{Input}
use Rattle.casbench.specs.declared.named_text.NamedText.{NamedText}
use Rattle.casbench.proofs.files.open_each.Goals as goal

-- one more name, of one more text
names_pushed : {S : Type 0} (texts pushed : List (NamedText S)) (text : NamedText S) (names : List (Bor (List ℕ))) (i : ℕ) (other : Bor (List ℕ)) → i < length names
    → pushed ≡ texts ++ text ∷ [] → text.name ≡ get_or names i other → map (λ t. t.name.now) texts ≡ map (λ n. n.now) (take i names)
    → map (λ t. t.name.now) pushed ≡ map (λ n. n.now) (take (i + 1) names)
names_pushed texts pushed text names i other within is named so_far =
    let one : map (λ (t : NamedText _). t.name.now) pushed ≡ map (λ (t : NamedText _). t.name.now) texts ++ text.name.now ∷ [] =
    ap (map (λ t. t.name.now)) is ∙ map-append (λ (t : NamedText _). t.name.now) texts (text ∷ []) in
    let two : map (λ (n : Bor (List ℕ)). n.now) (take (i + 1) names) ≡ map (λ n. n.now) (take i names) ++ text.name.now ∷ [] =
    ap (λ n. map (λ (n : Bor (List ℕ)). n.now) (take n names)) (add-one i) ∙ ap (map (λ n. n.now)) (take-suc names i other within)
    ∙ map-append (λ (n : Bor (List ℕ)). n.now) (take i names) (get_or names i other ∷ [])
    ∙ ap (λ (n : Bor (List ℕ)). map (λ n. n.now) (take i names) ++ n.now ∷ []) (sym named) in
    one ∙ (ap (λ ns. ns ++ text.name.now ∷ []) so_far ∙ sym two)

-- what is given of the input that is left is the input
is_input : {F I : Type 0} (left : Option I) (input : I) (source : Source F I) → (left ≡ Some input) ⊎ (left ≡ None) → option_map Input left ≡ Some source → source ≡ Input input
is_input left input source (inl is) given =
    let both : Some source ≡ Some (Input input) = sym given ∙ ap (option_map Input) is in
    cc
is_input left input source (inr is) given =
    let both : Some source ≡ None = sym given ∙ ap (option_map Input) is in
    absurd (cc)

-- the input is left, or nothing
still_left : {I : Type 0} (after left : Option I) (input : I) → (after ≡ left) ⊎ (after ≡ None) → (left ≡ Some input) ⊎ (left ≡ None) → (after ≡ Some input) ⊎ (after ≡ None)
still_left after left input (inl same) (inl is) = inl (same ∙ is)
still_left after left input (inl same) (inr is) = inr (same ∙ is)
still_left after left input (inr is) _ = inr is

pub loop-name-preserved : goal.loop-name-preserved
loop-name-preserved g c =
    let before = c.loop-name.texts.items in (
      names_pushed before c.push.new.self.items _ c.args.names.now c.loop-name.name-index _ c.loop-name-test.true c.in-Ok.ensures.items refl c.loop-name.invariant.0,
      subst (All (λ t. names_input (Some t.name.now) ≡ true → t.source ≡ Input c.args.input)) (sym c.in-Ok.ensures.items)
          (All-push (λ t. names_input (Some t.name.now) ≡ true → t.source ≡ Input c.args.input) before _ c.loop-name.invariant.1
          (λ named. is_input c.loop-name.left c.args.input c.in_ok-source.source c.loop-name.invariant.2 (c.in_ok-source.ensures.input named))),
      still_left c.open_next.new.left c.loop-name.left c.args.input c.open_next.ensures.left c.loop-name.invariant.2,
    )

pub returns-clause-names : goal.returns-clause-names
returns-clause-names g c = c.loop-name.invariant.0 ∙ ap (map (λ n. n.now)) (take_all c.loop-name.name-index c.args.names.now c.loop-name-test.false)

pub returns-clause-input : goal.returns-clause-input
returns-clause-input g c = c.loop-name.invariant.1
