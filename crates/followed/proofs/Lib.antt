mod Asking
mod Going
mod Noting
mod Pieces
