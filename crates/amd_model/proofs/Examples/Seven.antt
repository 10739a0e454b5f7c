-- The elimination of the graph seven, evaluated.
use Rattle.std.proofs.Common.{true, ◌≡◌, refl, [], ◌∷◌, map}
use Rattle.amd_model.specs.Below.{any_below, all_below, sum_below, count_below, list_below}
use Rattle.amd_model.specs.Graph.{degree}
use Rattle.amd_model.specs.State.{live_at, class_at, block_at, stands, inside, holds, joined, neighbours, front}
use Rattle.amd_model.specs.Step.{absorbed, other, outer, mass, block, border_of, beyond, outside, new_bound}
use Rattle.amd_model.specs.Run.{Run}
use Rattle.amd_model.specs.Figures.{front_sum, is_made, figure, entries, ldl_steps, lu_steps, max_below, greatest_front}
use Rattle.amd_model.specs.Listing.{block_list, weight, is_child, is_some_of, heaviest, heaviest_last, children, roots, none, more}
use Rattle.amd_model.specs.Listing.{IsPostorder}
use Rattle.amd_model.specs.Input.Pattern.{graph_of, is_pair, holds_row}
use Rattle.amd_model.specs.Quotient.{Fits, has, each, is_empty, turned, last_that, add_new, was_read, met_below, met_at, met_edges}
use Rattle.amd_model.specs.Quotient.{other_end, starting_list, start_quotient, pivot, gathered, absorbed as absorbed_listed, kept_elements}
use Rattle.amd_model.specs.Quotient.{kept_variables, mass as mass_listed, border_of as border_of_listed}
use Rattle.amd_model.specs.Quotient.{alike, represents, made, ends, new_size, outside as outside_listed, left}
use Rattle.amd_model.specs.Quotient.{new_bound as new_bound_listed, new_home, round, next, after_rounds}
use Rattle.amd_model.specs.Examples.Table.{none_dense}
use Rattle.amd_model.specs.Examples.Seven.{seven, pointers, rows, start_table, one_table, two_table, three_table, at_start, after_one}
use Rattle.amd_model.specs.Examples.Seven.{after_two, after_three, seven_quotient}
use Rattle.amd_model.specs.Factor.{before, IsFactor}
use Rattle.amd_model.proofs.Listings.ReachTest.{reaches, in_column, column, columns_to, columns, factor_of}
use Rattle.amd_model.proofs.Patterns.DegreeSums.{pattern_graph}
use Rattle.amd_model.proofs.Quotient.Start.{start_fits}
use Rattle.amd_model.proofs.Patterns.StartingLists.{starting_lists}
use Rattle.amd_model.proofs.States.StepTest.{passes, same_home, same_parent, same_test, implies, alike_test, moved_test, least_at}
use Rattle.amd_model.proofs.States.StepTest.{block_goes, kept_at, moved_at, merged_at, made_at, taken_at, border_at, parent_at, bound_at}
use Rattle.amd_model.proofs.States.StepTest.{bound_stays_at, step_tests, first_home, start_tests}
use Rattle.amd_model.proofs.Examples.Table.{is_within, steps_test, run_test, tables_run}

pub tested : run_test seven none_dense true start_table ((0, one_table) ∷ (6, two_table) ∷ (2, three_table) ∷ []) ≡ true
unfolding any_below all_below sum_below count_below graph_of is_pair holds_row degree live_at class_at block_at stands inside holds joined
    neighbours front absorbed other outer mass block border_of beyond outside new_bound has each is_within passes same_home same_parent
    same_test implies alike_test moved_test least_at block_goes kept_at moved_at merged_at made_at taken_at border_at parent_at bound_at
    bound_stays_at step_tests first_home start_tests steps_test run_test
tested = refl

pub run : Run seven none_dense true at_start (after_one ∷ after_two ∷ after_three ∷ [])
run = tables_run seven (pattern_graph 7 pointers rows) none_dense true start_table.homes start_table.bounds
    ((0, one_table) ∷ (6, two_table) ∷ (2, three_table) ∷ []) tested

pub listing : IsPostorder seven none_dense after_three (0 ∷ 6 ∷ 1 ∷ 3 ∷ 4 ∷ 5 ∷ 2 ∷ [])
unfolding sum_below count_below list_below graph_of class_at block_at block_list weight is_child is_some_of heaviest heaviest_last children
    roots has
listing = record {
  blocks = 0 ∷ 6 ∷ 1 ∷ 3 ∷ 4 ∷ 5 ∷ 2 ∷ [];
  lists = more {e = 2} {rest = []} {below = 0 ∷ 6 ∷ []} {after = []}
      (more {e = 6} {rest = []} {below = 0 ∷ []} {after = []} (more {e = 0} {rest = []} {below = []} {after = []} none none) none) none;
  is = refl;
}

pub lnz : figure entries seven none_dense after_three ≡ 15
unfolding any_below sum_below count_below graph_of is_pair holds_row degree class_at block_at is_made front_sum figure entries has
lnz = refl

pub ldl : figure ldl_steps seven none_dense after_three ≡ 29
unfolding any_below sum_below count_below graph_of is_pair holds_row degree class_at block_at is_made front_sum figure ldl_steps has
ldl = refl

pub lu : figure lu_steps seven none_dense after_three ≡ 43
unfolding any_below sum_below count_below graph_of is_pair holds_row degree class_at block_at is_made front_sum figure lu_steps has
lu = refl

pub d_max : greatest_front seven none_dense after_three ≡ 5
unfolding any_below sum_below count_below graph_of is_pair holds_row degree class_at block_at is_made max_below greatest_front has
d_max = refl

pub lists : map (starting_list 7 (is_pair 7 pointers rows)) (0 ∷ 1 ∷ 2 ∷ 3 ∷ 4 ∷ 5 ∷ 6 ∷ []) ≡ (5 ∷ 6 ∷ []) ∷ (2 ∷ 3 ∷ 4 ∷ 5 ∷ []) ∷
    (1 ∷ 3 ∷ 4 ∷ 6 ∷ []) ∷ (1 ∷ 2 ∷ 4 ∷ 6 ∷ []) ∷ (1 ∷ 2 ∷ 3 ∷ 5 ∷ []) ∷ (0 ∷ 1 ∷ 4 ∷ []) ∷ (0 ∷ 2 ∷ 3 ∷ []) ∷ []
unfolding any_below list_below is_pair holds_row was_read met_below met_at met_edges other_end starting_list
lists = refl

pub first_pivot : pivot seven_quotient.bound seven_quotient.placed ≡ 0
unfolding any_below list_below sum_below count_below graph_of is_pair holds_row degree has each is_empty turned last_that add_new was_read
    met_below met_at met_edges other_end starting_list start_quotient pivot gathered absorbed_listed kept_elements kept_variables
    mass_listed border_of_listed alike represents
    made ends new_size outside_listed left new_bound_listed new_home round next after_rounds
first_pivot = refl

pub second_pivot : pivot (next true seven_quotient).bound (next true seven_quotient).placed ≡ 6
unfolding any_below list_below sum_below count_below graph_of is_pair holds_row degree has each is_empty turned last_that add_new was_read
    met_below met_at met_edges other_end starting_list start_quotient pivot gathered absorbed_listed kept_elements kept_variables
    mass_listed border_of_listed alike represents
    made ends new_size outside_listed left new_bound_listed new_home round next after_rounds
second_pivot = refl

pub third_pivot : pivot (next true (next true seven_quotient)).bound (next true (next true seven_quotient)).placed ≡ 2
unfolding any_below list_below sum_below count_below graph_of is_pair holds_row degree has each is_empty turned last_that add_new was_read
    met_below met_at met_edges other_end starting_list start_quotient pivot gathered absorbed_listed kept_elements kept_variables
    mass_listed border_of_listed alike represents
    made ends new_size outside_listed left new_bound_listed new_home round next after_rounds
third_pivot = refl

pub fits : Fits seven seven_quotient at_start
fits = start_fits seven none_dense at_start (starting_list 7 (is_pair 7 pointers rows)) (pattern_graph 7 pointers rows) run.start
    (λ i h. starting_lists 7 pointers rows i)

pub homes : map (after_rounds 7 true seven_quotient).home (0 ∷ 1 ∷ 2 ∷ 3 ∷ 4 ∷ 5 ∷ 6 ∷ []) ≡ three_table.homes
unfolding any_below list_below sum_below count_below graph_of is_pair holds_row degree has each is_empty turned last_that add_new was_read
    met_below met_at met_edges other_end starting_list start_quotient pivot gathered absorbed_listed kept_elements kept_variables
    mass_listed border_of_listed alike represents
    made ends new_size outside_listed left new_bound_listed new_home round next after_rounds
homes = refl

pub second_front : list_below 7 (front seven after_one 6) ≡ 2 ∷ 3 ∷ 5 ∷ []
unfolding any_below all_below list_below graph_of is_pair holds_row degree live_at class_at block_at stands inside holds joined neighbours
    front has
second_front = refl

pub second_bound : new_bound seven true after_one after_two 6 2 ≡ 2
unfolding any_below all_below sum_below count_below list_below graph_of is_pair holds_row degree live_at class_at block_at stands inside
    holds joined neighbours front absorbed other outer mass block border_of beyond outside new_bound has
second_bound = refl

pub third_block : list_below 7 (block seven true after_two 2) ≡ 1 ∷ 2 ∷ 3 ∷ 4 ∷ 5 ∷ []
unfolding any_below all_below sum_below count_below list_below graph_of is_pair holds_row degree live_at class_at block_at stands inside
    holds joined neighbours front absorbed other outer mass block border_of beyond outside new_bound has
third_block = refl

pub factor : IsFactor seven (0 ∷ 6 ∷ 1 ∷ 3 ∷ 4 ∷ 5 ∷ 2 ∷ [])
    ((1 ∷ 5 ∷ []) ∷ (3 ∷ 5 ∷ 6 ∷ []) ∷ (3 ∷ 4 ∷ 5 ∷ 6 ∷ []) ∷ (4 ∷ 5 ∷ 6 ∷ []) ∷ (5 ∷ 6 ∷ []) ∷ (6 ∷ []) ∷ [] ∷ [])
unfolding any_below list_below graph_of is_pair holds_row degree before reaches in_column column columns_to columns
factor = factor_of seven (0 ∷ 6 ∷ 1 ∷ 3 ∷ 4 ∷ 5 ∷ 2 ∷ []) (pattern_graph 7 pointers rows)
