-- A profile in which a label is set.
use Rattle.std.proofs.Common.{◌≡◌, ◌≢◌, ℕ, Bool, true, false, true≢false, not, ◌&&◌, ◌||◌, List, [], ◌∷◌, map, get_or, refl, sym, ap, ◌∙◌}
use Rattle.std.specs.Prelude.{pos, All}
use Rattle.std.specs.List.{list_all, list_any}
use Rattle.std.specs.Ordering.{int_eq}
use Rattle.std.specs.Str.{bytes_eq}
use Rattle.std.proofs.lemmas.List.Elements.{All-map}
use Rattle.std.proofs.lemmas.Bool.{and_from, lt-ltb, or_right}
use Rattle.std.proofs.lemmas.Bool.Decides.{Decides-int_eq}
use Rattle.std.proofs.lemmas.List.Folds.{list_any-append}
use Rattle.std.proofs.lemmas.Slice.Eq.{bytes_eq-Decides}
use Rattle.pp_model.specs.declared.profile.Label.{Label}
use Rattle.pp_model.specs.declared.profile.Profile.{Profile}
use Rattle.pp_model.specs.Rules.{NoRuleFails, IsCompact, begins_empty, label_has_texts}
use Rattle.pp_model.specs.Sizes.{IsCountable}
use Rattle.pp_model.specs.FirstSight.{place_of, seen_after}
use Rattle.pp_model.specs.Lookup.{text_number, text_of}
use Rattle.pp_model.proofs.FirstSightLemmas.{IsSeen, all_seen}
use Rattle.pp_model.proofs.FirstText.{first_empty}
use Rattle.pp_share.specs.Described.{LabelText, label_text}
use Rattle.pp_share.proofs.Deciding.{place_gets}
use Rattle.pp_share.proofs.DistinctLemmas.{place_below}
use Rattle.pp_tags.specs.Labels.{has_text}
use Rattle.pp_build.specs.Said.{said_samples}
use Rattle.pp_edit.specs.Labels.{is_keyed_by, has_label, has_number, label_in, relabelled_sample, said_with, texts_of_label, with_label_set, with_texts_of}
use Rattle.pp_edit.proofs.TextLemmas.{apart_after, front_after, laws}
use Rattle.pp_edit.proofs.StayingLemmas.{begins_still}
use Rattle.pp_edit.proofs.RelabelledLemmas.{said_labels, relabelled_said, relabelled_valid, relabelled_countable, relabelled_compact}

-- the empty text stands first
first_place : (texts : List (List ℕ)) → begins_empty texts ≡ true → place_of bytes_eq texts [] ≡ 0
first_place [] is = absurd (true≢false (sym is))
first_place ([] ∷ texts) is = refl
first_place ((b ∷ bs) ∷ texts) is = absurd (true≢false (sym is))

-- a test that fails
fails : (b : Bool) → (b ≡ true → ⊥) → not b ≡ true
fails true other = absurd (other refl)
fails false other = refl

-- A profile with a label.
module _ (p : Profile) (l : LabelText) where
  abbrev texts : List (List ℕ)
  texts = seen_after bytes_eq p.text (texts_of_label l)

  -- the label has its texts
  own_texts : list_all (label_has_texts (with_texts_of p l)) (label_in texts l ∷ []) ≡ true
  own_texts =
      let seen = all_seen bytes_eq (laws []).refl p.text (texts_of_label l) in
      let low = (λ (x : List ℕ) (is : IsSeen bytes_eq texts x). lt-ltb _ _ (place_below bytes_eq bytes_eq-Decides texts x is)) in
      and_from _ _ (and_from _ _ (and_from _ _ (low l.key seen.0) (low l.text seen.1.0)) (low l.unit seen.1.1.0)) refl

  -- and says what it is to say
  own_said : label_text (text_of (with_texts_of p l)) (label_in texts l) ≡ l
  own_said =
      let seen = all_seen bytes_eq (laws []).refl p.text (texts_of_label l) in
      let at = (λ (x : List ℕ) (is : IsSeen bytes_eq texts x). place_gets bytes_eq bytes_eq-Decides texts x [] is) in
      λ i. record { key = at l.key seen.0 i; text = at l.text seen.1.0 i; num = l.num; unit = at l.unit seen.1.1.0 i }

  pub with_said : NoRuleFails p → said_samples (with_label_set p l) ≡ map (said_with l) (said_samples p)
  with_said valid =
      relabelled_said p valid texts (front_after p.text (texts_of_label l)) l.key (label_in texts l ∷ [])
      ∙ ap (λ (own : LabelText). map (said_labels l.key (own ∷ [])) (said_samples p)) own_said

  pub with_valid : NoRuleFails p → NoRuleFails (with_label_set p l)
  with_valid valid = relabelled_valid p valid texts (front_after p.text (texts_of_label l)) l.key (label_in texts l ∷ []) own_texts

  pub with_countable : NoRuleFails p → IsCountable p → IsCountable (with_label_set p l)
  with_countable valid = relabelled_countable p valid texts (front_after p.text (texts_of_label l)) l.key (label_in texts l ∷ [])

  pub with_compact : NoRuleFails p → IsCompact p → IsCompact (with_label_set p l)
  with_compact valid compact = relabelled_compact p valid texts (front_after p.text (texts_of_label l)) l.key (label_in texts l ∷ []) compact (apart_after p.text (texts_of_label l) compact.texts)

  -- there is an empty first text
  texts_begin : NoRuleFails p → begins_empty texts ≡ true
  texts_begin valid = begins_still p valid texts (front_after p.text (texts_of_label l))

  -- a test that the label passes finds it in each sample
  each_has : (test : Label → Bool) → test (label_in texts l) ≡ true → All (λ s. list_any test s.label ≡ true) (with_label_set p l).sample
  each_has test own =
      All-map (λ s. list_any test s.label ≡ true) (relabelled_sample (is_keyed_by (with_texts_of p l) l.key) (label_in texts l ∷ [])) p.sample
      (λ k d within. list_any-append test _ (label_in texts l ∷ []) ∙ or_right _ _ (ap (λ b. b || false) own))

  -- it has its key
  own_key : is_keyed_by (with_texts_of p l) l.key (label_in texts l) ≡ true
  own_key = (bytes_eq-Decides _ _).1 (sym (ap (λ (own : LabelText). own.key) own_said))

  -- Each sample has the text label,
  pub with_has : NoRuleFails p → l.text ≢ [] → All (λ s. has_label (with_label_set p l) l.key l.text s ≡ true) (with_label_set p l).sample
  with_has valid some =
      each_has (λ label. has_text label && (is_keyed_by (with_texts_of p l) l.key label && bytes_eq l.text (text_of (with_texts_of p l) label.text)))
      (and_from _ _ (fails _ (λ zeroth. some (sym (ap (λ (own : LabelText). own.text) own_said)
      ∙ ap (λ i. get_or texts (text_number i) []) ((Decides-int_eq (label_in texts l).text (pos 0)).0 zeroth) ∙ first_empty texts (texts_begin valid))))
      (and_from _ _ own_key ((bytes_eq-Decides _ _).1 (sym (ap (λ (own : LabelText). own.text) own_said)))))

  -- or the number label.
  pub with_has_number : NoRuleFails p → l.text ≡ [] → All (λ s. has_number (with_label_set p l) l.key l.num l.unit s ≡ true) (with_label_set p l).sample
  with_has_number valid none =
      each_has (λ label. not (has_text label) && (is_keyed_by (with_texts_of p l) l.key label && (int_eq l.num label.num && bytes_eq l.unit (text_of (with_texts_of p l) label.num_unit))))
      (and_from _ _ (ap (λ place. not (not (int_eq (pos place) (pos 0)))) (ap (place_of bytes_eq texts) none ∙ first_place texts (texts_begin valid)))
      (and_from _ _ own_key (and_from _ _ ((Decides-int_eq l.num l.num).1 refl) ((bytes_eq-Decides _ _).1 (sym (ap (λ (own : LabelText). own.unit) own_said))))))
