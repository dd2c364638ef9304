-- The reports of a saved profile come to the texts that its filters gave.
use Rattle.std.proofs.Common.{◌≡◌, ℕ, Bool, true, false, List, [], refl, sym, ap, ◌∙◌, subst}
use Rattle.std.specs.Prelude.{Option, Ok, Err, option_map, if◌then◌else◌, unwrap_or}
use Rattle.std.specs.Option.{option_map_or}
use Rattle.std.proofs.lemmas.Bool.{false≢true}
use Rattle.pp_desk.specs.Script.{Give}
use Rattle.pp_model.specs.declared.config.Config.{Config}
use Rattle.pp_model.specs.declared.loaded.Loaded.{Loaded}
use Rattle.pp_model.specs.declared.profile.Profile.{Profile}
use Rattle.pp_model.specs.declared.report.BaseKind.{BaseKind}
use Rattle.pp_model.specs.declared.report.Report.{Report}
use Rattle.pp_model.specs.declared.report.Report.TheVariants as reports
use Rattle.pp_model.specs.declared.presentation.Presentation.{Presentation}
use Rattle.pp_model.specs.Conditions.{IsColumnOf}
use Rattle.pp_model.specs.Finders.{Finders}
use Rattle.pp_units.specs.Head.{Facts}
use Rattle.pp_units.specs.Shown.{Shown, picked}
use Rattle.pp_pattern.specs.Report.{Finds, finders_of}
use Rattle.pp_share.specs.Header.{TypeText}
use Rattle.pp_count.specs.Counted.{has_own_match}
use Rattle.pp_graph.specs.Trim.{node_limit}
use Rattle.pp_top.specs.Top.{top_text}
use Rattle.pp_tree.specs.Tree.{tree_text}
use Rattle.pp_tree.specs.Peek.{peek_text}
use Rattle.pp_calltree.specs.Text.{calltree_text}
use Rattle.pp_export.specs.Folded.{folded_text}
use Rattle.pp_export.specs.Table.{exact_table}
use Rattle.pp_dump.specs.Saved.{saved}
use Rattle.pp_report.specs.declared.refusal.ReportRefusal.TheVariants.{NoMatch}
use Rattle.pp_report.specs.declared.texts.TheConstants.{TREE_NODES}
use Rattle.pp_report.specs.Heads.{report_head, unit_text}
use Rattle.pp_model.specs.ReportFacts.{is_counted, own_pattern}
use Rattle.pp_report.specs.Patterns.{report_finders}
use Rattle.pp_stack.specs.LoadFinders.{finder_by}
use Rattle.pp_report.specs.Prepared.{Showing, showing_for}
use Rattle.pp_report.specs.Reports.{finish, finish_made, finish_on, text_by}
use Rattle.pp_pseudo.specs.Basis.{framed_by}
use Rattle.pp_report.specs.Tagged.{basis_of}
use Rattle.pp_saved.specs.SavedReports.{SavedReports, IsSavedOf, NamesNoKey}
use Rattle.pp_saved.specs.StaysSaved.{stays_saved}
use Rattle.pp_report.proofs.TypesLemmas.{HasTypesOf, same_showing, same_unit, type_is, types_by_header}
use Rattle.pp_saved.specs.Headed.{HeadedFigures, headed_figures}
use Rattle.pp_saved.specs.Kept.{PrintAlike}
use Rattle.pp_saved.specs.Premises.{CanSave, unfiltered, own_alone}
use Rattle.pp_saved.proofs.SavedAlike.{saved_figures, saved_texts}
use Rattle.pp_saved.proofs.Saving.{is_saved}

-- the head follows from the figures
abbrev head_by : HeadedFigures → Option Shown → Facts
head_by g wanted = record {
  file = g.file;
  kind = option_map_or (λ (t : TypeText). t.kind) g.value_type [];
  duration = g.duration;
  total = g.figures.total;
  unit = unwrap_or wanted (picked g.figures.total (option_map_or (λ (t : TypeText). t.unit) g.value_type []));
}

head_is : (p : Profile) (f : Finders) (config : Config) (column : Option ℕ) (wanted : Option Shown)
    → head_by (headed_figures p f config column) wanted ≡ report_head p f config column wanted
head_is p f config column wanted =
    let total : ℕ = (headed_figures p f config column).figures.total in
    λ i. record {
      file = (headed_figures p f config column).file;
      kind = type_is (λ (t : TypeText). t.kind) p column i;
      duration = p.duration_nanos;
      total = total;
      unit = unwrap_or wanted (picked total (type_is (λ (t : TypeText). t.unit) p column i));
    }

-- without keys no frames are made from labels
pub plain_basis : (report : Report) (l : Loaded) (presentation : Presentation) → NamesNoKey presentation → basis_of report l presentation ≡ l
unfolding basis_of
plain_basis report l presentation keyless = (λ i. if is_counted report then framed_by l (keyless.roots i) (keyless.leaves i) else l) ∙ by (is_counted report)
  where
    by : (b : Bool) → (if b then l else l) ≡ l
    by true = refl
    by false = refl

module _ (finds : Finds) (l r : Loaded) (report : Report) (config : Config) (can : CanSave l.profile config.presentation) (is : IsSavedOf finds l config.filtering r) where
  abbrev f : Finders
  f = report_finders finds l report config.filtering

  abbrev g : Finders
  g = report_finders finds r report (unfiltered config).filtering

  -- what is saved doesn't depend on the own pattern
  profile_is : r.profile ≡ saved l.profile f config.filtering
  profile_is = is.profile

  finders_are : g ≡ own_alone f
  finders_are = λ i. finders_of finds (unfiltered config).filtering (own_pattern report) (option_map (finder_by r.profile) (is.drop i)) (option_map (finder_by r.profile) (is.keep i))

  pub types_are : HasTypesOf l.profile r.profile
  types_are =
      subst (HasTypesOf l.profile) (sym profile_is)
      (types_by_header l.profile (saved l.profile f config.filtering) (is_saved l.profile f config can.valid can.starts can.settled).header.header)

  module _ (column : Option ℕ) (within : IsColumnOf l.profile column) (wanted : Option Shown) where
    pub figures_are : headed_figures r.profile g (unfiltered config) column ≡ headed_figures l.profile f config column
    figures_are = (λ i. headed_figures (profile_is i) (finders_are i) (unfiltered config) column) ∙ saved_figures l.profile f config column can within

    texts_are : PrintAlike l.profile f config r.profile g (unfiltered config) column
    texts_are =
        subst (λ (x : Profile × Finders). PrintAlike l.profile f config x.0 x.1 (unfiltered config) column) (λ i. (sym profile_is i, sym finders_are i))
        (saved_texts l.profile f config column can within)

    abbrev theirs : Facts
    theirs = report_head r.profile g (unfiltered config) column wanted

    abbrev ours : Facts
    ours = report_head l.profile f config column wanted

    heads_are : theirs ≡ ours
    heads_are =
        sym (head_is r.profile g (unfiltered config) column wanted) ∙ ap (λ (x : HeadedFigures). head_by x wanted) figures_are
        ∙ head_is l.profile f config column wanted

    top_same : (limit : ℕ) → top_text r.profile g (unfiltered config) column limit theirs ≡ top_text l.profile f config column limit ours
    top_same limit = ap (top_text r.profile g (unfiltered config) column limit) heads_are ∙ texts_are.top limit ours

    tree_same : (limit : ℕ) → tree_text r.profile g (unfiltered config) column limit theirs ≡ tree_text l.profile f config column limit ours
    tree_same limit = ap (tree_text r.profile g (unfiltered config) column limit) heads_are ∙ texts_are.tree limit ours

    peek_same : peek_text r.profile g (unfiltered config) column theirs ≡ peek_text l.profile f config column ours
    peek_same = ap (peek_text r.profile g (unfiltered config) column) heads_are ∙ texts_are.peek ours

    table_same : (limit : ℕ) → exact_table r.profile g (unfiltered config) column limit (unit_text r.profile column) ≡ exact_table l.profile f config column limit (unit_text l.profile column)
    table_same limit =
        ap (exact_table r.profile g (unfiltered config) column limit) (same_unit l.profile r.profile types_are column)
        ∙ texts_are.table limit (unit_text l.profile column)

    folded_same : folded_text r.profile g (unfiltered config) column ≡ folded_text l.profile f config column
    folded_same = texts_are.folded

    found_same : has_own_match r.profile g (unfiltered config) column ≡ has_own_match l.profile f config column
    found_same = texts_are.found

-- what holds of each report that stays
pub on_staying : (P : Report → Type 0) → P reports.Top → P reports.Tree → ((pattern : List ℕ) → P (reports.Peek pattern)) → P reports.Folded → P reports.Table
    → (report : Report) → stays_saved report ≡ true → P report
on_staying P top tree peek folded table reports.Top stays = top
on_staying P top tree peek folded table reports.Tree stays = tree
on_staying P top tree peek folded table (reports.Peek pattern) stays = peek pattern
on_staying P top tree peek folded table reports.Traces stays = absurd (false≢true stays)
on_staying P top tree peek folded table reports.Tags stays = absurd (false≢true stays)
on_staying P top tree peek folded table reports.Raw stays = absurd (false≢true stays)
on_staying P top tree peek folded table reports.Comments stays = absurd (false≢true stays)
on_staying P top tree peek folded table reports.Proto stays = absurd (false≢true stays)
on_staying P top tree peek folded table (reports.List pattern) stays = absurd (false≢true stays)
on_staying P top tree peek folded table reports.Folded stays = folded
on_staying P top tree peek folded table reports.Table stays = table
on_staying P top tree peek folded table reports.Compare stays = absurd (false≢true stays)
on_staying P top tree peek folded table reports.Changes stays = absurd (false≢true stays)
on_staying P top tree peek folded table reports.Account stays = absurd (false≢true stays)

module _ (finds : Finds) (l r : Loaded) (config : Config) (by_keys : config.presentation.path_tree ≡ false) (s : Showing) (within : IsColumnOf l.profile s.column)
    (can : CanSave l.profile config.presentation) (is : IsSavedOf finds l config.filtering r) where
  -- the report comes to the same text
  abbrev IsSame : Report → Type 0
  IsSame report = finish_on finds r report (unfiltered config) s ≡ finish_on finds l report config s

  top_is : IsSame reports.Top
  unfolding finish_on text_by
  top_is = λ i. Give (Ok (top_same finds l r reports.Top config can is s.column within s.wanted (node_limit config.presentation.nodecount 0) i))

  tree_is : IsSame reports.Tree
  unfolding finish_on text_by
  tree_is =
      let q : Profile = r.profile in
      let d : Config = unfiltered config in
      let p : Profile = l.profile in
      let f : Finders = report_finders finds l reports.Tree config.filtering in
      let g : Finders = report_finders finds r reports.Tree d.filtering in
      let h : Facts = report_head p f config s.column s.wanted in
      let k : Facts = report_head q g d s.column s.wanted in
      (λ i. Give (Ok (if by_keys i then calltree_text q g d s.column k else tree_text q g d s.column (node_limit config.presentation.nodecount TREE_NODES) k)))
      ∙ (λ i. Give (Ok (tree_same finds l r reports.Tree config can is s.column within s.wanted (node_limit config.presentation.nodecount TREE_NODES) i)))
      ∙ (λ i. Give (Ok (if sym by_keys i then calltree_text p f config s.column h else tree_text p f config s.column (node_limit config.presentation.nodecount TREE_NODES) h)))

  peek_is : (pattern : List ℕ) → IsSame (reports.Peek pattern)
  unfolding finish_on text_by
  peek_is pattern =
      λ i. Give (if found_same finds l r (reports.Peek pattern) config can is s.column within s.wanted i
      then Ok (peek_same finds l r (reports.Peek pattern) config can is s.column within s.wanted i) else Err NoMatch)

  table_is : IsSame reports.Table
  unfolding finish_on text_by
  table_is = λ i. Give (Ok (table_same finds l r reports.Table config can is s.column within s.wanted (node_limit config.presentation.nodecount 0) i))

  folded_is : IsSame reports.Folded
  unfolding finish_on text_by
  folded_is = λ i. Give (Ok (folded_same finds l r reports.Folded config can is s.column within s.wanted i))

  text_same : (report : Report) → stays_saved report ≡ true → IsSame report
  text_same report stays = on_staying IsSame top_is tree_is peek_is folded_is table_is report stays

-- shows what the configuration shows, filtered or not
unfiltered_shows : (report : Report) (p : Profile) (config : Config) → showing_for report p (unfiltered config).presentation ≡ showing_for report p config.presentation
unfiltered_shows report p config = refl

-- none of them compares with a base
pub lacks_none : (finds : Finds) (l : Loaded) (report : Report) (config : Config) (base : Option BaseKind) (s : Showing) → stays_saved report ≡ true
    → finish finds l base report config s ≡ finish_made finds l report config s
lacks_none finds l report config base s stays =
    on_staying (λ r. finish finds l base r config s ≡ finish_made finds l r config s) refl refl (λ pattern. refl) refl refl report stays

-- The reports are alike.
pub saved_reports : SavedReports
saved_reports finds l r report config stays can plain is = record {
  shows = unfiltered_shows report r.profile config ∙ same_showing l.profile r.profile (types_are finds l r report config can is) report config.presentation;
  comes_to = λ showing within base other.
      lacks_none finds r report (unfiltered config) other showing stays
      ∙ ap (λ (x : Loaded). finish_on finds x report (unfiltered config) showing)
      (plain_basis report r (unfiltered config).presentation (record { roots = plain.keyless.roots; leaves = plain.keyless.leaves }))
      ∙ text_same finds l r config plain.path_tree showing within can is report stays
      ∙ ap (λ (x : Loaded). finish_on finds x report config showing) (sym (plain_basis report l config.presentation plain.keyless))
      ∙ sym (lacks_none finds l report config base showing stays);
}
