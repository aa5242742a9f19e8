-- Document 01's limits, each under a name.
use Rattle.std.specs.Prelude.{ℕ, ◌+◌, ◌*◌}

-- a text of a reading (document 01's main text is one) and the archive, in bytes
abbrev pub text_bytes : ℕ
text_bytes = 32768

abbrev pub archive_bytes : ℕ
archive_bytes = 65536

abbrev pub archive_files : ℕ
archive_files = 64

abbrev pub file_name_bytes : ℕ
file_name_bytes = 96

-- the depth of a reading: how deep a text it reads, where a text of the reading is at depth 0. The greatest that a caller may give is
-- document 01's (Xlib has the same number; the manual is silent), and the other holds where the caller gives none (document 02 (x))
abbrev pub greatest_depth : ℕ
greatest_depth = 100

abbrev pub default_depth : ℕ
default_depth = 20

abbrev pub most_opens : ℕ
most_opens = 4096

abbrev pub most_entries : ℕ
most_entries = 512

abbrev pub most_parts : ℕ
most_parts = 16

-- keys and values together, and the bytes of the lent bodies
abbrev pub body_bytes : ℕ
body_bytes = 32768

-- the words of an entry's row: start, key length, value length, and where its line stands (document 02 (viii))
abbrev pub row_words : ℕ
row_words = 4

-- the words of the lent contents
abbrev pub contents_words : ℕ
contents_words = 2 + row_words * most_entries

-- the same of an image from before document 02 (viii), whose rows do not say where a line stands
abbrev pub old_row_words : ℕ
old_row_words = 3

abbrev pub old_contents_words : ℕ
old_contents_words = 2 + old_row_words * most_entries

-- the word of a row whose line stands nobody knows where
abbrev pub unknown_file : ℕ
unknown_file = 65535

-- the longest text of an image (document 02 (iv)): 512 entries, a key of two bytes each, and two bytes of text for each byte of a value
abbrev pub written_bytes : ℕ
written_bytes = 2 * body_bytes + most_entries

-- of a query's name or class
abbrev pub query_bytes : ℕ
query_bytes = 1024

abbrev pub query_parts : ℕ
query_parts = 32

-- of one that the dictionary window asks (document 02 (vi))
abbrev pub window_bytes : ℕ
window_bytes = 128

abbrev pub window_parts : ℕ
window_parts = 8

-- of a board (document 02 (ix))
abbrev pub most_packs : ℕ
most_packs = 16

abbrev pub most_queries : ℕ
most_queries = 32

-- the words of a pack's slot: its number, then its contents
abbrev pub slot_words : ℕ
slot_words = 1 + contents_words

-- the words and the bytes of the lent board
abbrev pub board_words : ℕ
board_words = 2 + 2 * most_queries + slot_words * most_packs

abbrev pub board_bytes : ℕ
board_bytes = 2 * query_bytes * most_queries + body_bytes * most_packs
