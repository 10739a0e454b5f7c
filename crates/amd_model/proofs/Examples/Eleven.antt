-- The elimination of the graph eleven, evaluated.
use Rattle.std.proofs.Common.{true, false, ◌≡◌, refl, [], ◌∷◌, map}
use Rattle.amd_model.specs.Below.{any_below, all_below, sum_below, count_below, list_below}
use Rattle.amd_model.specs.Graph.{degree, edge_count, degree_sum}
use Rattle.amd_model.specs.State.{live_at, class_at, block_at, stands, inside, holds, joined, neighbours, front}
use Rattle.amd_model.specs.Step.{absorbed, other, outer, mass, block, border_of, beyond, outside, new_bound}
use Rattle.amd_model.specs.Run.{Run}
use Rattle.amd_model.specs.Figures.{front_sum, is_made, figure, entries, ldl_steps, lu_steps, max_below, greatest_front}
use Rattle.amd_model.specs.Listing.{block_list, weight, is_child, is_some_of, heaviest, heaviest_last, children, roots, none, more}
use Rattle.amd_model.specs.Listing.{IsPostorder}
use Rattle.amd_model.specs.Input.Pattern.{graph_of, is_pair, holds_row, pair_count, diagonal_count}
use Rattle.amd_model.specs.Input.Dense.{is_dense}
use Rattle.amd_model.specs.Quotient.{Fits, has, each, is_empty, turned, last_that, add_new, was_read, met_below, met_at, met_edges}
use Rattle.amd_model.specs.Quotient.{other_end, starting_list, start_quotient, pivot, gathered, absorbed as absorbed_listed, kept_elements}
use Rattle.amd_model.specs.Quotient.{kept_variables, mass as mass_listed, border_of as border_of_listed}
use Rattle.amd_model.specs.Quotient.{alike, represents, made, ends, new_size, outside as outside_listed, left}
use Rattle.amd_model.specs.Quotient.{new_bound as new_bound_listed, new_home, round, next, after_rounds}
use Rattle.amd_model.specs.Examples.Eleven.{eleven, pointers, rows, row_one, start_table, one_table, two_table, three_table, four_table}
use Rattle.amd_model.specs.Examples.Eleven.{five_table, at_start, after_one, after_two, after_three, after_four, after_five}
use Rattle.amd_model.specs.Examples.Eleven.{eleven_quotient}
use Rattle.amd_model.specs.Factor.{before, IsFactor}
use Rattle.amd_model.proofs.Listings.ReachTest.{reaches, in_column, column, columns_to, columns, factor_of}
use Rattle.amd_model.proofs.Patterns.DegreeSums.{pattern_graph}
use Rattle.amd_model.proofs.Quotient.Start.{start_fits}
use Rattle.amd_model.proofs.Patterns.StartingLists.{starting_lists}
use Rattle.amd_model.proofs.States.StepTest.{passes, same_home, same_parent, same_test, implies, alike_test, moved_test, least_at}
use Rattle.amd_model.proofs.States.StepTest.{block_goes, kept_at, moved_at, merged_at, made_at, taken_at, border_at, parent_at, bound_at}
use Rattle.amd_model.proofs.States.StepTest.{bound_stays_at, step_tests, first_home, start_tests}
use Rattle.amd_model.proofs.Examples.Table.{is_within, steps_test, run_test, tables_run}

pub tested : run_test eleven row_one true start_table
    ((10, one_table) ∷ (6, two_table) ∷ (5, three_table) ∷ (3, four_table) ∷ (4, five_table) ∷ []) ≡ true
unfolding any_below all_below sum_below count_below graph_of is_pair holds_row degree live_at class_at block_at stands inside holds joined
    neighbours front absorbed other outer mass block border_of beyond outside new_bound has each is_within passes same_home same_parent
    same_test implies alike_test moved_test least_at block_goes kept_at moved_at merged_at made_at taken_at border_at parent_at bound_at
    bound_stays_at step_tests first_home start_tests steps_test run_test
tested = refl

pub run : Run eleven row_one true at_start (after_one ∷ after_two ∷ after_three ∷ after_four ∷ after_five ∷ [])
run = tables_run eleven (pattern_graph 11 pointers rows) row_one true start_table.homes start_table.bounds
    ((10, one_table) ∷ (6, two_table) ∷ (5, three_table) ∷ (3, four_table) ∷ (4, five_table) ∷ []) tested

pub listing : IsPostorder eleven row_one after_five (10 ∷ 5 ∷ 6 ∷ 3 ∷ 0 ∷ 2 ∷ 7 ∷ 9 ∷ 4 ∷ 8 ∷ 1 ∷ [])
unfolding sum_below count_below list_below graph_of class_at block_at block_list weight is_child is_some_of heaviest heaviest_last children
    roots has
listing = record {
  blocks = 10 ∷ 5 ∷ 6 ∷ 3 ∷ 0 ∷ 2 ∷ 7 ∷ 9 ∷ 4 ∷ 8 ∷ [];
  lists = more {e = 4} {rest = 8 ∷ []} {below = 10 ∷ 5 ∷ 6 ∷ 3 ∷ []} {after = 8 ∷ []}
      (more {e = 10} {rest = 3 ∷ []} {below = []} {after = 5 ∷ 6 ∷ 3 ∷ []} none
      (more {e = 3} {rest = []} {below = 5 ∷ 6 ∷ []} {after = []}
      (more {e = 5} {rest = 6 ∷ []} {below = []} {after = 6 ∷ []} none (more {e = 6} {rest = []} {below = []} {after = []} none none))
      none))
      (more {e = 8} {rest = []} {below = []} {after = []} none none);
  is = refl;
}

pub lnz : figure entries eleven row_one after_five ≡ 32
unfolding any_below sum_below count_below graph_of is_pair holds_row degree class_at block_at is_made front_sum figure entries has
lnz = refl

pub ldl : figure ldl_steps eleven row_one after_five ≡ 80
unfolding any_below sum_below count_below graph_of is_pair holds_row degree class_at block_at is_made front_sum figure ldl_steps has
ldl = refl

pub lu : figure lu_steps eleven row_one after_five ≡ 128
unfolding any_below sum_below count_below graph_of is_pair holds_row degree class_at block_at is_made front_sum figure lu_steps has
lu = refl

pub d_max : greatest_front eleven row_one after_five ≡ 6
unfolding any_below sum_below count_below graph_of is_pair holds_row degree class_at block_at is_made max_below greatest_front has
d_max = refl

pub lists : map (starting_list 11 (is_pair 11 pointers rows))
    (0 ∷ 1 ∷ 2 ∷ 3 ∷ 4 ∷ 5 ∷ 6 ∷ 7 ∷ 8 ∷ 9 ∷ 10 ∷ []) ≡ (3 ∷ 1 ∷ 2 ∷ 4 ∷ 5 ∷ 7 ∷ []) ∷ (0 ∷ 4 ∷ []) ∷ (0 ∷ 10 ∷ 6 ∷ []) ∷
    (0 ∷ 4 ∷ 5 ∷ 6 ∷ [])
    ∷ (3 ∷ 7 ∷ 0 ∷ 1 ∷ 9 ∷ []) ∷ (3 ∷ 0 ∷ 9 ∷ []) ∷ (9 ∷ 2 ∷ 3 ∷ []) ∷ (4 ∷ 9 ∷ 0 ∷ 10 ∷ []) ∷ [] ∷ (6 ∷ 7 ∷ 10 ∷ 4 ∷ 5 ∷ []) ∷
    (2 ∷ 9 ∷ 7 ∷ []) ∷ []
unfolding any_below list_below is_pair holds_row was_read met_below met_at met_edges other_end starting_list
lists = refl

pub first_pivot : pivot eleven_quotient.bound eleven_quotient.placed ≡ 10
unfolding any_below list_below sum_below count_below graph_of is_pair holds_row degree has each is_empty turned last_that add_new was_read
    met_below met_at met_edges other_end starting_list start_quotient pivot gathered absorbed_listed kept_elements kept_variables
    mass_listed border_of_listed alike represents
    made ends new_size outside_listed left new_bound_listed new_home round next after_rounds
first_pivot = refl

pub second_pivot : pivot (next true eleven_quotient).bound (next true eleven_quotient).placed ≡ 6
unfolding any_below list_below sum_below count_below graph_of is_pair holds_row degree has each is_empty turned last_that add_new was_read
    met_below met_at met_edges other_end starting_list start_quotient pivot gathered absorbed_listed kept_elements kept_variables
    mass_listed border_of_listed alike represents
    made ends new_size outside_listed left new_bound_listed new_home round next after_rounds
second_pivot = refl

pub third_pivot : pivot (next true (next true eleven_quotient)).bound (next true (next true eleven_quotient)).placed ≡ 5
unfolding any_below list_below sum_below count_below graph_of is_pair holds_row degree has each is_empty turned last_that add_new was_read
    met_below met_at met_edges other_end starting_list start_quotient pivot gathered absorbed_listed kept_elements kept_variables
    mass_listed border_of_listed alike represents
    made ends new_size outside_listed left new_bound_listed new_home round next after_rounds
third_pivot = refl

pub fourth_pivot : pivot (next true (next true (next true eleven_quotient))).bound
    (next true (next true (next true eleven_quotient))).placed ≡ 3
unfolding any_below list_below sum_below count_below graph_of is_pair holds_row degree has each is_empty turned last_that add_new was_read
    met_below met_at met_edges other_end starting_list start_quotient pivot gathered absorbed_listed kept_elements kept_variables
    mass_listed border_of_listed alike represents
    made ends new_size outside_listed left new_bound_listed new_home round next after_rounds
fourth_pivot = refl

pub fifth_pivot : pivot (next true (next true (next true (next true eleven_quotient)))).bound
    (next true (next true (next true (next true eleven_quotient)))).placed ≡ 4
unfolding any_below list_below sum_below count_below graph_of is_pair holds_row degree has each is_empty turned last_that add_new was_read
    met_below met_at met_edges other_end starting_list start_quotient pivot gathered absorbed_listed kept_elements kept_variables
    mass_listed border_of_listed alike represents
    made ends new_size outside_listed left new_bound_listed new_home round next after_rounds
fifth_pivot = refl

pub fits : Fits eleven eleven_quotient at_start
fits = start_fits eleven row_one at_start (starting_list 11 (is_pair 11 pointers rows)) (pattern_graph 11 pointers rows) run.start
    (λ i h. starting_lists 11 pointers rows i)

pub homes : map (after_rounds 11 true eleven_quotient).home (0 ∷ 1 ∷ 2 ∷ 3 ∷ 4 ∷ 5 ∷ 6 ∷ 7 ∷ 8 ∷ 9 ∷ 10 ∷ []) ≡ five_table.homes
unfolding any_below list_below sum_below count_below graph_of is_pair holds_row degree has each is_empty turned last_that add_new was_read
    met_below met_at met_edges other_end starting_list start_quotient pivot gathered absorbed_listed kept_elements kept_variables
    mass_listed border_of_listed alike represents
    made ends new_size outside_listed left new_bound_listed new_home round next after_rounds
homes = refl

pub second_border : list_below 11 (border_of eleven true after_one 6) ≡ 2 ∷ 3 ∷ 9 ∷ []
unfolding any_below all_below sum_below count_below list_below graph_of is_pair holds_row degree live_at class_at block_at stands inside
    holds joined neighbours front absorbed other outer mass block border_of beyond outside new_bound has
second_border = refl

pub second_bound : new_bound eleven true after_one after_two 6 3 ≡ 5
unfolding any_below all_below sum_below count_below list_below graph_of is_pair holds_row degree live_at class_at block_at stands inside
    holds joined neighbours front absorbed other outer mass block border_of beyond outside new_bound has
second_bound = refl

pub fourth_bound : new_bound eleven true after_three after_four 3 2 ≡ 3
unfolding any_below all_below sum_below count_below list_below graph_of is_pair holds_row degree live_at class_at block_at stands inside
    holds joined neighbours front absorbed other outer mass block border_of beyond outside new_bound has
fourth_bound = refl

pub fifth_absorbed : list_below 11 (absorbed eleven true after_four 4) ≡ 3 ∷ 10 ∷ []
unfolding any_below all_below sum_below count_below list_below graph_of is_pair holds_row degree live_at class_at block_at stands inside
    holds joined neighbours front absorbed other outer mass block border_of beyond outside new_bound has
fifth_absorbed = refl

pub fifth_plainly : list_below 11 (absorbed eleven false after_four 4) ≡ 3 ∷ []
unfolding any_below all_below sum_below count_below list_below graph_of is_pair holds_row degree live_at class_at block_at stands inside
    holds joined neighbours front absorbed other outer mass block border_of beyond outside new_bound has
fifth_plainly = refl

pub pairs : pair_count 11 pointers rows ≡ 23
unfolding any_below sum_below count_below graph_of is_pair holds_row degree pair_count
pairs = refl

pub diagonal : diagonal_count 11 pointers rows ≡ 1
unfolding any_below sum_below count_below graph_of is_pair holds_row degree diagonal_count
diagonal = refl

pub edges : edge_count eleven ≡ 19
unfolding any_below sum_below count_below graph_of is_pair holds_row degree edge_count
edges = refl

pub degrees : degree_sum eleven ≡ 38
unfolding any_below sum_below count_below graph_of is_pair holds_row degree degree_sum
degrees = refl

pub dense_rows : list_below 11 (is_dense eleven 4) ≡ 0 ∷ 4 ∷ 9 ∷ []
unfolding any_below sum_below count_below graph_of is_pair holds_row degree list_below is_dense
dense_rows = refl

pub factor : IsFactor eleven (10 ∷ 5 ∷ 6 ∷ 3 ∷ 0 ∷ 2 ∷ 7 ∷ 9 ∷ 4 ∷ 8 ∷ 1 ∷ [])
    ((5 ∷ 6 ∷ 7 ∷ []) ∷ (3 ∷ 4 ∷ 7 ∷ []) ∷ (3 ∷ 5 ∷ 7 ∷ []) ∷ (4 ∷ 5 ∷ 7 ∷ 8 ∷ []) ∷ (5 ∷ 6 ∷ 7 ∷ 8 ∷ 10 ∷ []) ∷ (6 ∷ 7 ∷ 8 ∷ 10 ∷ []) ∷
    (7 ∷ 8 ∷ 10 ∷ []) ∷ (8 ∷ 10 ∷ []) ∷ (10 ∷ []) ∷ [] ∷ [] ∷ [])
unfolding any_below list_below graph_of is_pair holds_row degree before reaches in_column column columns_to columns
factor = factor_of eleven (10 ∷ 5 ∷ 6 ∷ 3 ∷ 0 ∷ 2 ∷ 7 ∷ 9 ∷ 4 ∷ 8 ∷ 1 ∷ []) (pattern_graph 11 pointers rows)
