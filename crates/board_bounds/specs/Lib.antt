-- Examples of a board in buffers as long as they are lent.
mod Boards
