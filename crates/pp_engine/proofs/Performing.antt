-- What comes of words that were read.
use Rattle.std.proofs.Common.{◌≡◌, ℕ, List, Option, Some, None, ap, ◌∙◌}
use Rattle.std.specs.Prelude.{Result, Ok, Err}
use Rattle.std.proofs.lemmas.Option.{same_Some}
use Rattle.pp_options.specs.declared.help.Topic.{Topic}
use Rattle.pp_options.specs.declared.plan.Plan.{Plan}
use Rattle.pp_options.specs.declared.usage.UsageFault.{UsageFault}
use Rattle.pp_options.specs.Help.{topic_asked}
use Rattle.pp_options.specs.Plans.{request_of}
use Rattle.pp_options.specs.Words as options
use Rattle.pp_engine.specs.declared.ending.Cause.TheVariants as causes
use Rattle.pp_engine.specs.Messages.{usage_line}
use Rattle.pp_engine.specs.Reporting.{end_with}
use Rattle.pp_engine.specs.Session.{perform, perform_words, begin, session}
use Rattle.pp_engine.specs.Words.{planned, plan_in, performed, said_by}
use Rattle.pp_engine.proofs.PlanLemmas.{planned_is}
use Rattle.pp_pattern.specs.Report.{Finds}

-- A session of words that tell nothing of the program does what they ask for.
module _ (finds : Finds) (words : List (List ℕ)) (none : topic_asked words ≡ None) where
  by_words : (said : Result Plan UsageFault) → options.words words ≡ said_by said → session finds words ≡ perform_words finds said
  unfolding session begin
  by_words said is = ap (begin finds words) none ∙ ap (perform_words finds) (planned_is words said is)

  -- words that are a plan
  pub session_plan : (plan : Plan) → options.words words ≡ Ok (request_of plan) → session finds words ≡ perform finds plan
  unfolding perform_words
  session_plan plan is = by_words (Ok plan) is

  -- words of which one is wrong
  pub session_fault : (fault : UsageFault) → options.words words ≡ Err fault → session finds words ≡ end_with (usage_line fault) (causes.Usage fault)
  unfolding perform_words
  session_fault fault is = by_words (Err fault) is

said_performed : (finds : Finds) (said : Result Plan UsageFault) (plan : Plan) → plan_in None said ≡ Some plan → perform_words finds said ≡ perform finds plan
unfolding perform_words
said_performed finds (Ok other) plan is = ap (perform finds) (same_Some other plan is)
said_performed finds (Err fault) plan is = absurd (cc)

begun : (finds : Finds) (words : List (List ℕ)) (topic : Option Topic) (plan : Plan) → plan_in topic (planned words) ≡ Some plan → begin finds words topic ≡ perform finds plan
unfolding begin
begun finds words (Some topic) plan is = absurd (cc)
begun finds words None plan is = said_performed finds (planned words) plan is

-- A session performs the plan of its words.
pub plan_performed : (finds : Finds) (words : List (List ℕ)) (plan : Plan) → performed words ≡ Some plan → session finds words ≡ perform finds plan
unfolding session
plan_performed finds words plan is = begun finds words (topic_asked words) plan is
