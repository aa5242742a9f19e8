-- How examples are evaluated: by unfolding all of the definition.
use Rattle.std.specs.Prelude.{Bool, ℕ, if◌then◌else◌}
use mathlib.Core.List.{List, [], ◌∷◌, map, flatten}
use Rattle.std.proofs.Math.Option.{Option, some, none}
use Prim.Native.String.{String}
use Rattle.definition.specs.Lists.{ascii, all, any, take_while, drop_while, filter, is_empty, or_else, beyond, zeroes, same, lower}
use Rattle.definition.specs.Parsing.{continued, at_most, many, ◌>>=◌, after}
use Rattle.definition.specs.Limits.{greatest_depth, default_depth}
use Rattle.definition.specs.Bytes.{is_digit, is_octal, is_name, is_blank, is_space, is_binding, not_newline}
use Rattle.definition.specs.Archive.{File, lengths_of, bodies_of, archive_of, files_from, files_of, prefixed, split, is_name_part, is_file_name, rising, laid_out, struck_off, folder_of, joined, reduced, ends_in_dots, as_file_name, path_of, body_of, file_number}
use Rattle.definition.specs.Text.{binding_of, component_at, part_at, is_named, ends_in_name, positional, line_ends, octal_of, escape_at, piece_at, after_blanks, line_end, include_of, assigned, resource_of, directive_of, line_at, lines_of}
use Rattle.definition.specs.Including.{Entered, events_of, opening, seeking, including, events, events_of_all, entries_of, origin_of, opens_of}
use Rattle.definition.specs.Image.{key_of, rows_of, store_of, contents_of, written_over, rows_from, origins_from, stored_part_at, entries_in, with_origins, is_key, packed, is_origin, is_image_by}
use Rattle.definition.specs.Reading.{judge, left, reading, met, plain, read_entries}
use Rattle.definition.specs.StartUp.{first_text, second_text, added, texts_used}
use Rattle.definition.specs.Writing.{escaped, begins_blank, value_text, entry_text, text_of, put_into, writing_by}
use Rattle.definition.specs.Query.{query_part_at, names_of, positions_of, counted_query, query_within, query_of}
use Rattle.definition.specs.Matching.{equals, match_at, mark_of, mark_at}
use Rattle.definition.specs.Ranking.{meet_row, skip_row, rank_of, better, best_from, best_of}
use Rattle.definition.specs.Lookup.{value_of, answer_of, place_of, lookup, get_bytes_by, answer_in}
use Rattle.definition.specs.Value.{Number, table, after_row, first_row, character, character_at, is_utf8, natural_of, signed, i64_of, lowercase, word_of, non_zero, to_bool, replied, read_as, number_of, bytes_or, as_string, as_bool, as_number, get_string_by, get_bool_by, get_value_by, shown_by}
use Rattle.definition.specs.Walking.{has_row, aligns, aligned_from, first_of, next_of, begun, walk_start_by, number_or, stepped, walk_step_by, after_step}
use Rattle.definition.specs.Adding.{entries_added, over, appended, judged, added_one, adding, listed_after, turned, played, steps_in, numbers_from}
use Rattle.definition.specs.Migration.{carried, migrating}
use Rattle.definition.specs.Board.{checked, reply_to, changed, if_given, after_calls, brought_by, joined as joinedEntries, found_at, found_in, query_number, store_number, bytes_found, same_answer, each, changes, bits_of, reported, lengths_start, slot_start, text_start, body_start, slot_at, query_at, are_slots, have_room, is_board, board_make, writing, board_call, board_answer, board_answers, board_report, after_all, answer_among}
use Rattle.definition.specs.Nesting.{opens, finds, includes_where, finds_at}

-- an example unfolds all of the definition
unfoldable pub definition : ℕ
unfolding
    all any take_while drop_while filter is_empty or_else beyond zeroes same lower
    continued at_most many after is_digit is_octal is_name is_blank is_space is_binding not_newline
    lengths_of bodies_of archive_of files_from files_of prefixed split is_name_part is_file_name rising laid_out struck_off folder_of joined reduced ends_in_dots
    as_file_name path_of body_of file_number
    binding_of component_at part_at is_named ends_in_name positional line_ends octal_of escape_at piece_at after_blanks line_end include_of assigned
    resource_of directive_of line_at lines_of events_of opening seeking including events events_of_all entries_of origin_of opens_of
    key_of rows_of store_of contents_of written_over rows_from origins_from stored_part_at entries_in with_origins is_key packed is_origin is_image_by judge left reading
    first_text second_text added texts_used escaped begins_blank value_text entry_text text_of put_into writing_by
    query_part_at names_of positions_of counted_query query_within equals match_at mark_of mark_at meet_row skip_row rank_of better best_from best_of
    value_of answer_of place_of lookup get_bytes_by answer_in table after_row first_row character character_at is_utf8 natural_of signed i64_of lowercase
    word_of non_zero to_bool replied read_as number_of bytes_or as_string as_bool as_number get_string_by get_bool_by get_value_by shown_by flatten
    has_row aligns aligned_from first_of next_of begun walk_start_by number_or stepped walk_step_by after_step
    entries_added over appended judged added_one adding listed_after turned played steps_in numbers_from opens finds includes_where finds_at
    carried migrating
    checked reply_to changed if_given after_calls brought_by joinedEntries found_at found_in query_number store_number bytes_found same_answer each changes bits_of
    reported lengths_start slot_start text_start body_start slot_at query_at are_slots have_room is_board board_make writing board_call board_answer board_answers board_report
    after_all answer_among
definition = 0

-- ---- What an example looks at

-- an archive of no files, and of files by name and body
abbrev pub no_files : List ℕ
no_files = 0 ∷ 0 ∷ []

abbrev pub file : String → String → File
file n b = record { name = ascii n; body = ascii b }

-- an entry as the image writes it
pub record Written : Type 0 where
  pub key : List ℕ
  pub value : List ℕ

abbrev pub line : String → String → Written
line k v = record { key = ascii k; value = ascii v }

unfoldable pub written : List Entered → List Written
written xs = map (λ (x : Entered). record { key = key_of x.entry.parts; value = x.entry.value }) xs

-- the entries of a main text, with an archive and without
unfoldable pub entries_with : List File → String → List Written
entries_with fs t = written (read_entries default_depth (ascii t ∷ []) (archive_of fs))

unfoldable pub entries : String → List Written
entries t = entries_with [] t

-- the value of a main text's one entry
unfoldable pub value_in : List Written → Option (List ℕ)
value_in [] = none
value_in (w ∷ []) = some w.value
value_in (w ∷ v ∷ ws) = none

-- what a query gets from a main text's entries
unfoldable pub answer : String → String → String → Option (List ℕ)
answer t name class = answer_of (plain (read_entries default_depth (ascii t ∷ []) no_files)) (query_of (ascii name) (ascii class))

-- ---- What was recorded of the Rust, whose depth is the greatest

pub data Answer : Type 0 where
  reads : ℕ → List Written → Answer
  bytes : Option (List ℕ) → Answer
  truth : Option Bool → Answer
  value : Option Number → Answer

-- what the definition answers, and what the Rust did
pub record Row : Type 0 where
  pub defined : Answer
  pub recorded : Answer

abbrev pub ◌~◌ : Answer → Answer → Row
◌~◌ a b = record { defined = a; recorded = b }

infix 70 ◌~◌
abbrev pub entry : List ℕ → List ℕ → Written
entry k v = record { key = k; value = v }

unfoldable pub read : List ℕ → List ℕ → Answer
read t s = reads (opens_of (met greatest_depth (t ∷ []) s)) (written (read_entries greatest_depth (t ∷ []) s))

module _ (text archive name class : List ℕ) where
  unfoldable pub found : Option (List ℕ)
  found = answer_of (plain (read_entries greatest_depth (text ∷ []) archive)) (query_of name class)

  unfoldable pub well_formed : Option (List ℕ)
  well_formed = found >>= (λ v. if is_utf8 v then some v else none)

  unfoldable pub ask_bytes : Answer
  ask_bytes = bytes found

  unfoldable pub ask_string : Answer
  ask_string = bytes well_formed

  unfoldable pub ask_bool : Answer
  ask_bool = truth (well_formed >>= to_bool)

  unfoldable pub ask_value : Answer
  ask_value = value (well_formed >>= (λ v. some (number_of (i64_of v))))
