mod Lasting
mod Volatile
