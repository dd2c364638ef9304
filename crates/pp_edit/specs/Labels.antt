-- Labels of samples: which ones have a key, and profiles from which they are taken or in which they are set.
use Rattle.std.specs.Prelude.{ℕ, Bool, ◌&&◌, not, ℤ, pos, List, [], ◌∷◌, ◌++◌, map}
use Rattle.std.specs.List.{filter, list_any}
use Rattle.std.specs.Ordering.{int_eq}
use Rattle.std.specs.Str.{bytes_eq}
use Rattle.pp_model.specs.declared.profile.Label.{Label}
use Rattle.pp_model.specs.declared.profile.Sample.{Sample}
use Rattle.pp_model.specs.declared.profile.Profile.{Profile}
use Rattle.pp_model.specs.FirstSight.{place_of, seen_after}
use Rattle.pp_model.specs.Lookup.{text_of}
use Rattle.pp_share.specs.Described.{LabelText}
use Rattle.pp_tags.specs.Labels.{has_text}
use Rattle.pp_build.specs.Said.{SaidSample}

-- the label's key is this text
abbrev pub is_keyed_by : Profile → List ℕ → Label → Bool
is_keyed_by p key label = bytes_eq key (text_of p label.key)

-- one of the sample's labels is a text label of this key and this text
abbrev pub has_label : Profile → List ℕ → List ℕ → Sample → Bool
has_label p key text s =
    list_any (λ label. has_text label && (is_keyed_by p key label && bytes_eq text (text_of p label.text))) s.label

-- one of the sample's labels is a number label of this key, number and unit
abbrev pub has_number : Profile → List ℕ → ℤ → List ℕ → Sample → Bool
has_number p key num unit s =
    list_any
    (λ label. not (has_text label)
    && (is_keyed_by p key label && (int_eq num label.num && bytes_eq unit (text_of p label.num_unit))))
    s.label

-- the sample with these labels behind those of other keys
abbrev pub relabelled_sample : (Label → Bool) → List Label → Sample → Sample
relabelled_sample goes labels s =
    record s { label = filter (λ label. not (goes label)) s.label ++ labels }

-- the profile whose samples have these labels behind those of other keys
abbrev pub relabelled : Profile → List ℕ → List Label → Profile
relabelled p key labels = record p { sample = map (relabelled_sample (is_keyed_by p key) labels) p.sample }

-- the sample without labels of the key
abbrev pub sample_without : Profile → List ℕ → Sample → Sample
sample_without p key s = record s { label = filter (λ label. not (is_keyed_by p key label)) s.label }

-- the profile whose samples have no label of the key
abbrev pub without_label : Profile → List ℕ → Profile
without_label p key = record p { sample = map (sample_without p key) p.sample }

-- the three texts of the label
abbrev pub texts_of_label : LabelText → List (List ℕ)
texts_of_label l = l.key ∷ l.text ∷ l.unit ∷ []

-- The profile with the texts of the label: each stands where it stood, and a new one behind the others.
abbrev pub with_texts_of : Profile → LabelText → Profile
with_texts_of p l =
    record p { text = seen_after bytes_eq p.text (texts_of_label l) }

-- the label, as these texts are numbered
abbrev pub label_in : List (List ℕ) → LabelText → Label
label_in texts l = record {
  key = pos (place_of bytes_eq texts l.key);
  text = pos (place_of bytes_eq texts l.text);
  num = l.num;
  num_unit = pos (place_of bytes_eq texts l.unit);
}

-- the profile whose samples have the label, in the place of all labels of its key
abbrev pub with_label_set : Profile → LabelText → Profile
with_label_set p l =
    relabelled (with_texts_of p l) l.key (label_in (with_texts_of p l).text l ∷ [])

-- a label of a text
abbrev pub text_label : List ℕ → List ℕ → LabelText
text_label key text = record { key = key; text = text; num = pos 0; unit = [] }

-- a label of a number
abbrev pub number_label : List ℕ → ℤ → List ℕ → LabelText
number_label key num unit = record { key = key; text = []; num = num; unit = unit }

-- the sample, written out, without labels of the key
abbrev pub said_without : List ℕ → SaidSample → SaidSample
said_without key s =
    record s { labels = filter (λ label. not (bytes_eq key label.key)) s.labels }

-- the sample, written out, with the label behind those of other keys
abbrev pub said_with : LabelText → SaidSample → SaidSample
said_with l s = record s { labels = (said_without l.key s).labels ++ l ∷ [] }
