-- The certificate and its neighbours: each row of the table is right, by computing the surveys, and by what is proved of the checker.
-- Assumes nothing.
use Prim.Native.Nat.{◌<◌}
use mathlib.Core.Path.{◌≡◌, refl}
use mathlib.Core.Logic.{inl, inr}
use mathlib.Core.List.{[]}
use lib.ListN.{length}
use lib.Dec.{lit<, lit≤}
use Rattle.logic.specs.Kind.{bodies, body_of}
use Rattle.logic.specs.Record.{word, field, record_at, bytes_of, bytes}
use Rattle.logic.specs.Count.{of_kind, formula_at, position_of, goals}
use Rattle.logic.specs.Refusal.Outcome.{accepted, refused}
use Rattle.logic.specs.Reading.{out_of_order, over_limit, is_dangling, is_misfit, is_not_rising, is_wrong_delegation, is_to_sender, is_no_statement, has_loose, is_after_last, fault_of, is_repeated, fault, fault_at, scan_from, scan, reading}
use Rattle.logic.specs.Book.{All}
use Rattle.logic.specs.Formula.{built, trees_behind, tree_of}
use Rattle.logic.specs.Place.{F, rank, place}
use Rattle.logic.specs.Written.{fact_in, is_malformed, opened, goal_fact_on}
use Rattle.logic.specs.Step.{numbers_in, step_size, step_at, steps_from}
use Rattle.logic.specs.Survey.{count}
use Rattle.logic.proofs.Derivations.{checked_no_steps, checked_premise_zero}
use Rattle.format.specs.Index.{packed, unpacked, slot_of, filled}
use Rattle.format.specs.Index as index
use Rattle.format.specs.Variables.{variables_in, loose_in, joined_low, variables_of}
use Rattle.format.specs.Variables as variables
use Rattle.facts.specs.Facts.{bit_at}
use Rattle.facts.specs.Lists.{upto}
use Rattle.facts.specs.Block.{bit_of, cell_at}
use Rattle.layout.specs.Flat.{byte_of, clear_in, opened_in, bit_in, form_in, principals_in, forms_in, assumptions_in, messages_in, laid_out}
use Rattle.instances.specs.Rows.{has_delegation}
use Rattle.flat.specs.Layout.{field_at, assumption_at, receiver_at, message_at, stated_at}
use Rattle.rules.specs.Rules.{parted, joined, conjoined, vouched, controlled, is_public, is_about, by_shared_key, by_own_key, by_public_key, by_secret, unsealed, last_about, before, along, by_kind, trusted, rules_of}
use Rattle.tables.specs.Links.{is_statement, about_of, in_front, linked_one, linked_upto, linked}
use Rattle.tables.specs.Users.{used, used_in, parts, asks_second, asked, entered_upto, taken_over, row_upto, shared_one, shared_upto, users_of}
use Rattle.lanes.specs.Lanes.{lane, marked, is_new, noted, counted, is_held, entered, ready, fired, run}
use Rattle.lanes.proofs.Measure.{lack}
use Rattle.rules.specs.Rules as rules
use Rattle.stages.specs.Stages.{assumed}
use Rattle.search.proofs.BookGiven.{received, assumed_upto, received_upto}
use Rattle.stages.proofs.Closed.{total}
use Rattle.stages.proofs.Exists.{last_below, turned, turns, closed_up}
use Rattle.search.proofs.SurveyOf.{made, first_from, held_at, bytes_from, words_after, survey_with, survey_of, flat_of, rows_of, table_of}
use Rattle.neighbours.specs.Rows.{Right, certificate, nine, premise_zero, rows}
use Rattle.neighbours.specs.Rows.Row.{checking}
use Rattle.neighbours.proofs.RowTests.{each, same_records, is_read, accepts, agrees, rows_shown}
use Rattle.neighbours.proofs.Certificate.{nine_accepted}

-- The bytes of the certificate are a book with one goal.
certificate_read : reading (bytes certificate) ≡ accepted certificate
unfolding bodies body_of word field record_at bytes_of bytes of_kind formula_at position_of built trees_behind tree_of
    out_of_order over_limit is_dangling is_misfit is_not_rising is_wrong_delegation is_to_sender is_no_statement has_loose is_after_last fault_of is_repeated fault fault_at scan_from scan reading
certificate_read = refl

one_goal : 0 < length (goals certificate)
unfolding of_kind
one_goal = lit< tt

-- The rows of the checker: nine steps suffice,
nine_right : Right (checking certificate nine 9 (accepted tt))
unfolding word numbers_in step_size step_at steps_from
nine_right = (refl, rw certificate_read (inr (one_goal, nine_accepted)))

-- no steps are 20 at 0, and step 0 naming premise 0 is 18 at 0.
none_right : Right (checking certificate [] 0 (refused 20 0))
unfolding steps_from
none_right = (refl, checked_no_steps (bytes certificate) certificate 0 certificate_read one_goal)

zero_right : Right (checking certificate premise_zero 1 (refused 18 0))
unfolding of_kind built trees_behind tree_of word fact_in is_malformed numbers_in step_size step_at steps_from
zero_right = (
  refl,
  checked_premise_zero (bytes certificate) certificate 0 78 _ certificate_read one_goal (lit< tt) (lit≤ tt) tt (inl refl),
)

-- EVERY ROW IS RIGHT. Unfolded are, line by line: records and their bytes; reading; trees and places; the index, the array and the rows; the tables;
-- the rules of each record; the lanes; the stages and closing; the survey, and the test of a row.
pub rows_right : All Right rows
unfolding bodies body_of word field record_at bytes_of bytes of_kind formula_at position_of built trees_behind tree_of
    out_of_order over_limit is_dangling is_misfit is_not_rising is_wrong_delegation is_to_sender is_no_statement has_loose is_after_last fault_of is_repeated fault fault_at scan_from scan reading
    F rank place count opened goal_fact_on bit_of cell_at
    packed unpacked slot_of index.noted filled variables_in loose_in joined_low variables.joined variables_of byte_of clear_in opened_in bit_in form_in principals_in forms_in assumptions_in messages_in laid_out flat_of has_delegation rows_of
    is_statement about_of in_front linked_one linked_upto linked used used_in parts asks_second asked entered_upto taken_over row_upto shared_one shared_upto users_of
    field_at assumption_at receiver_at message_at upto parted joined conjoined vouched controlled is_public
    is_about by_shared_key by_own_key by_public_key by_secret unsealed last_about before along rules.opened by_kind trusted rules_of
    bit_at lane marked is_new noted counted is_held entered ready fired run
    stated_at assumed received assumed_upto received_upto lack total last_below turned turns closed_up
    made first_from held_at bytes_from words_after survey_with survey_of table_of each agrees same_records is_read accepts
rows_right = rows_shown rows (tt, (tt, (nine_right, (tt, (tt, (tt, (tt, (none_right, (zero_right, (tt, tt))))))))))
