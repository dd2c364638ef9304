use Rattle.pp_count.proofs.filters.reach_of.Goals as goal

pub returns : goal.returns
returns c = λ p v are. record {
  focus = c.reaches.ensures p v.focus are.focus;
  ignore = c.reaches-2.ensures p v.ignore are.ignore;
  hide = c.reaches-3.ensures p v.hide are.hide;
  show = c.reaches-4.ensures p v.show are.show;
  show_from = c.reaches-5.ensures p v.show_from are.show_from;
}
